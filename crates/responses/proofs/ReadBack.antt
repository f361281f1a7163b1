-- What a signer's packet says is what was given; what it says, given again, is the packet; and 9 and 26 stand exactly where they are due.
-- Assumes nothing.
use Prim.Native.Nat.{ℕ, ◌%◌}
use mathlib.Core.Path.{◌≡◌, sym, ap, subst, ◌∙◌}
use mathlib.Core.List.{List, map}
use lib.ListN.{length}
use borrow.Author.Tests.{eqb-true}
use Rattle.wire.specs.Bytes.{Bytes, joined}
use Rattle.layout.specs.declared.Header.{Header}
use Rattle.layout.specs.Messages.{NonceResponse, SignatureShareResponse, nonce_response, signature_share_response}
use Rattle.layout.specs.Encode.{header_of, nonce_bytes}
use Rattle.layout.specs.LaidOut.{header_in, part_at, parts_from, whole_entries}
use Rattle.layout.specs.Decode.{ids_in, share_in, decode, taken}
use Rattle.layout.specs.Fits.{IdsListed, ResponseFits, ShareResponseFits}
use Rattle.layout.proofs.Entries.{fits-nonces_in, bytes-nonces_in, nonces_in-bytes, whole_nonces}
use Rattle.layout.proofs.RoundTrip.{decode-encode, encode-decode, decode-fits}
use Rattle.framing.specs.Writing.{written}
use Rattle.responses.specs.declared.lists.ResponseHead.{ResponseHead}
use Rattle.responses.specs.Responses.{nonce_response_given, write_nonce_response}
use Rattle.responses.specs.Responses.{lists_agree, share_response_given, write_signature_share_response}
use Rattle.responses.specs.ReadBack.{HeadFits, HeadRead, nonce_response_length, NonceResponseRead, ids_of, z_is_of, counts_of, key_ids_of}
use Rattle.responses.specs.ReadBack.{SharesRead, share_response_length, ShareResponseRead, sender_of, head_in, lent}
use Rattle.responses.specs.ReadBack.{NoncesTaken, SharesTaken, Answers}
use Rattle.responses.proofs.Cut.{agreed, agreeing, counted, shares_read, shares_fit, agree_of, shares_given_law}
use Rattle.responses.proofs.Lending.{lending_taken, lending_written, lending-answers, ResponseAt, response_at_law, SharesAt, shares_at}
use Rattle.responses.proofs.Packets.{nonces-tested, nonces-length, nonces_passed, the_nonces_asked}
use Rattle.responses.proofs.Packets.{shares-tested, shares-length, shares_passed, shares_asked}

-- a header, number by number
head_read :
    (kind pairs : ℕ) (h : ResponseHead) (s : List ℕ)
    → header_in s ≡ header_of kind 0 pairs h.signer_id.0 h.ids → HeadRead kind pairs h s
unfolding header_in
head_read kind pairs h s e =
    record {
      kind = ap (λ (x : Header). x.kind) e;
      signature_type = ap (λ (x : Header). x.signature_type) e;
      pairs = ap (λ (x : Header). x.pairs) e;
      signer_id = ap (λ (x : Header). x.signer_id) e;
      dkg_id = ap (λ (x : Header). x.ids.dkg_id) e;
      sign_id = ap (λ (x : Header). x.ids.sign_id) e;
      sign_iter_id = ap (λ (x : Header). x.ids.sign_iter_id) e;
    }

-- kind 2, from numbers and bytes that are what their types hold
module _ (room : ℕ) (h : ResponseHead) (message key_ids nonces : List ℕ) (bn : Bytes nonces) where
  -- 9 and 26, each exactly where it is due
  pub nonce-response-answers :
      Answers (NoncesTaken message key_ids nonces) (nonce_response_length message key_ids nonces) room
      (write_nonce_response room h message key_ids nonces)
  unfolding write_nonce_response
  nonce-response-answers =
      let tested = nonces-tested h message key_ids nonces in
      lending-answers room (whole_entries 66 nonces) (nonce_response (nonce_response_given h message key_ids nonces))
      (λ e. nonces_passed message key_ids nonces (sym tested ∙ e)) (λ t. tested ∙ the_nonces_asked message key_ids nonces t)
      (λ t. nonces-length h message key_ids nonces bn t.nonces_whole)

  -- and what is written is read back, field by field
  module _ (f : HeadFits h) (bm : Bytes message) (k : IdsListed key_ids) where
    response_fits : length nonces % 66 ≡ 0 → ResponseFits (nonce_response_given h message key_ids nonces)
    unfolding nonce_response_given
    response_fits e = record { ids = f.ids; signer_id = f.signer_id; message = bm; key_ids = k; nonces = fits-nonces_in nonces bn e }

    pub nonce-response-read :
        (s : List ℕ) → write_nonce_response room h message key_ids nonces ≡ written s → NonceResponseRead room h message key_ids nonces s
    unfolding write_nonce_response nonce_response_given whole_entries
    nonce-response-read s e =
        let r = nonce_response_given h message key_ids nonces in
        let l = lending_written room (whole_entries 66 nonces) (nonce_response r) s e in
        let whole : length nonces % 66 ≡ 0 = eqb-true _ 0 l.agrees in
        let fit = response_fits whole in
        let at = response_at_law r fit l.limited in
        subst (NonceResponseRead room h message key_ids nonces) l.bytes
        (record {
          decoded = decode-encode (nonce_response r) fit l.limited;
          head = head_read 2 3 h _ at.header_at;
          message_read = at.message_at;
          key_ids_read = at.keys_at;
          nonces_read = at.nonces_at ∙ bytes-nonces_in nonces bn whole;
          size = nonces-length h message key_ids nonces bn whole;
          fits_room = l.fits;
        })

-- a packet that is taken as a nonce response, given again: by its message's fields, and by what stands at its places
module _ (room : ℕ) (s : List ℕ) (b : Bytes s) (r : NonceResponse) (e : decode s ≡ taken (nonce_response r)) where
  pub nonce-response-said :
      write_nonce_response room (sender_of r.signer_id r.ids) r.message r.key_ids (joined (map nonce_bytes r.nonces))
      ≡ lent room s
  unfolding write_nonce_response nonce_response_given
  nonce-response-said =
      let d = decode-fits s (nonce_response r) b e in
      rw (nonces_in-bytes r.nonces d.0.nonces)
      (lending_taken room _ (nonce_response r) (whole_nonces r.nonces d.0.nonces) d.1
      ∙ ap (lent room) (encode-decode s (nonce_response r) b e))

  pub nonce_response_back : write_nonce_response room (head_in s) (part_at s 32) (ids_in (part_at s 40)) (part_at s 48) ≡ lent room s
  nonce_response_back =
      let d = decode-fits s (nonce_response r) b e in
      let at : ResponseAt r s = subst (ResponseAt r) (encode-decode s (nonce_response r) b e) (response_at_law r d.0 d.1) in
      rw (at.header_at, at.message_at, at.keys_at, at.nonces_at) nonce-response-said

-- kind 4
module _ (room : ℕ) (h : ResponseHead) (ids z_i counts key_ids : List ℕ) where
  -- 9 and 26, each exactly where it is due
  pub share-response-answers :
      Answers (SharesTaken ids z_i counts key_ids) (share_response_length ids key_ids) room
      (write_signature_share_response room h ids z_i counts key_ids)
  unfolding write_signature_share_response
  share-response-answers =
      let tested = shares-tested ids z_i counts key_ids h in
      lending-answers room (lists_agree ids z_i counts key_ids) (signature_share_response (share_response_given h ids z_i counts key_ids))
      (λ e. shares_passed ids z_i counts key_ids (sym tested ∙ e)) (λ t. tested ∙ shares_asked ids z_i counts key_ids t)
      (λ t. shares-length ids z_i counts key_ids t.agree h)

  -- and what is written is read back, field by field and list by list, from numbers and bytes that are what their types hold
  pub share-response-read :
      HeadFits h → IdsListed ids → Bytes z_i → IdsListed key_ids
      → (s : List ℕ) → write_signature_share_response room h ids z_i counts key_ids ≡ written s
      → ShareResponseRead room h ids z_i counts key_ids s
  unfolding write_signature_share_response share_response_given
  share-response-read f i bz k s e =
      let r = share_response_given h ids z_i counts key_ids in
      let l = lending_written room (lists_agree ids z_i counts key_ids) (signature_share_response r) s e in
      let a = agreed ids z_i counts key_ids l.agrees in
      let each = shares_fit ids z_i counts key_ids a i bz k in
      let fit : ShareResponseFits r = record { ids = f.ids; signer_id = f.signer_id; signature_shares = each } in
      let at = shares_at r fit l.limited in
      let n = (counted ids z_i counts key_ids a).0 in
      subst (ShareResponseRead room h ids z_i counts key_ids) l.bytes
      (record {
        decoded = decode-encode (signature_share_response r) fit l.limited;
        head = head_read 4 (length ids) h _ (rw n at at.header_at);
        shares = subst (SharesRead ids z_i counts key_ids) (sym (rw n at at.shares_at)) (shares_read ids z_i counts key_ids a);
        size = shares-length ids z_i counts key_ids a h;
        fits_room = l.fits;
      })

-- a packet that is taken as a share response, given again: by its message's shares, and by what stands at its places
module _ (room : ℕ) (s : List ℕ) (b : Bytes s) (r : SignatureShareResponse) (e : decode s ≡ taken (signature_share_response r)) where
  pub share-response-said :
      let ss = r.signature_shares in
      write_signature_share_response room (sender_of r.signer_id r.ids) (ids_of ss) (z_is_of ss) (counts_of ss) (key_ids_of ss)
      ≡ lent room s
  unfolding write_signature_share_response share_response_given
  share-response-said =
      let ss = r.signature_shares in
      let d = decode-fits s (signature_share_response r) b e in
      let fit = d.0.signature_shares in
      let lists = agreeing (ids_of ss) (z_is_of ss) (counts_of ss) (key_ids_of ss) (agree_of ss fit) in
      rw (shares_given_law ss fit)
      (lending_taken room _ (signature_share_response r) lists d.1 ∙ ap (lent room) (encode-decode s (signature_share_response r) b e))

  pub share-response-back :
      let ss = map share_in (parts_from s 32 (header_in s).pairs) in
      write_signature_share_response room (head_in s) (ids_of ss) (z_is_of ss) (counts_of ss) (key_ids_of ss) ≡ lent room s
  share-response-back =
      let d = decode-fits s (signature_share_response r) b e in
      let at : SharesAt r s = subst (SharesAt r) (encode-decode s (signature_share_response r) b e) (shares_at r d.0 d.1) in
      rw (at.header_at, at.shares_at) share-response-said
