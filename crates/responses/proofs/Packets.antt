-- What the two packets are: question 9 by the lists' lengths, the packet's parts and length, and how it is put together.
-- Assumes nothing.
use Prim.Native.Nat.{ℕ, ◌+◌, ◌*◌, ◌/◌, ◌%◌, ◌≤◌}
use mathlib.Core.Path.{◌≡◌, refl, ◌∙◌}
use mathlib.Core.Bool.{Bool, true, false, ◌&&◌}
use mathlib.Core.List.{List, [], ◌∷◌, ◌++◌, map}
use native.Mathlib.Nat.{div-add-mod'}
use native.Mathlib.Omega.{arith}
use lib.Dec.{eqb, leb}
use lib.ListN.{length, length-map}
use borrow.Author.Tests.{leb-true, le-leb, eqb-true, eq-eqb}
use Rattle.wire.specs.Bytes.{Bytes, put, joined}
use Rattle.wire.proofs.Buffer.{put_next}
use Rattle.wire.proofs.Lists.{and_left, and_right, and_both, and_false}
use Rattle.layout.specs.declared.Header.{Header}
use Rattle.layout.specs.Limits.{message_limit, list_limit}
use Rattle.layout.specs.Messages.{nonce_response, signature_share_response}
use Rattle.layout.specs.Encode.{header_bytes, packet, header_of, id_bytes, share_bytes, response_parts, header, parts, encode}
use Rattle.layout.specs.LaidOut.{whole_entries}
use Rattle.layout.specs.Decode.{key_count, within, response_within}
use Rattle.layout.proofs.Frame.{length-header_bytes}
use Rattle.layout.proofs.Entries.{length-id_bytes, length-nonces_in, bytes-nonces_in}
use Rattle.framing.specs.Writing.{pairs, total}
use Rattle.framing.proofs.Laws.{put-parts, put-framed, length-parts}
use Rattle.responses.specs.declared.lists.ResponseHead.{ResponseHead}
use Rattle.responses.specs.Responses.{nonce_response_given, shares_given, share_length, lists_agree, share_response_given}
use Rattle.responses.specs.ReadBack.{nonce_response_length, share_response_length, NoncesTaken, Agree, SharesTaken}
use Rattle.responses.proofs.Cut.{agreed, agreeing, counted}
use Rattle.responses.proofs.Given.{lengths_given, total_lengths}

-- 9 of a nonce response, by lengths
abbrev pub nonces_within : ℕ → ℕ → ℕ → Bool
nonces_within message keys nonces =
    eqb (nonces % 66) 0 && (leb message message_limit && leb keys list_limit && leb (nonces / 66) list_limit)

module _ (h : ResponseHead) (message key_ids nonces : List ℕ) where
  pub nonces-tested :
      whole_entries 66 nonces && within (nonce_response (nonce_response_given h message key_ids nonces))
      ≡ nonces_within (length message) (length key_ids) (length nonces)
  unfolding whole_entries within response_within nonce_response_given
  nonces-tested = rw (length-nonces_in nonces)

  module _ (b : Bytes nonces) (whole : length nonces % 66 ≡ 0) where
    pub nonces-packet :
        encode (nonce_response (nonce_response_given h message key_ids nonces))
        ≡ packet (header_of 2 0 3 h.signer_id.0 h.ids) (message ∷ (id_bytes key_ids ∷ (nonces ∷ [])))
    unfolding encode header parts response_parts nonce_response_given
    nonces-packet = rw (bytes-nonces_in nonces b whole)

    pub nonces-length :
        length (encode (nonce_response (nonce_response_given h message key_ids nonces))) ≡ nonce_response_length message key_ids nonces
    unfolding total
    nonces-length = rw (nonces-packet, length-parts, length-id_bytes) (omega arith)

-- what it says in plain conditions, and back
module _ (message key_ids nonces : List ℕ) where
  pub nonces_passed : nonces_within (length message) (length key_ids) (length nonces) ≡ true → NoncesTaken message key_ids nonces
  nonces_passed e =
      let some = leb (length message) message_limit in
      let few = leb (length key_ids) list_limit in
      let all : some && few && leb (length nonces / 66) list_limit ≡ true = and_right (eqb (length nonces % 66) 0) _ e in
      let both : some && few ≡ true = and_left _ _ all in
      record {
        message_short = leb-true _ message_limit (and_left _ _ both);
        keys_few = leb-true _ list_limit (and_right some _ both);
        nonces_whole = eqb-true _ 0 (and_left _ _ e);
        nonces_few = leb-true _ list_limit (and_right (some && few) _ all);
      }

  pub the_nonces_asked : NoncesTaken message key_ids nonces → nonces_within (length message) (length key_ids) (length nonces) ≡ true
  the_nonces_asked t =
      let lists = and_both _ _ (le-leb _ message_limit t.message_short) (le-leb _ list_limit t.keys_few) in
      and_both _ _ (eq-eqb _ 0 t.nonces_whole) (and_both _ _ lists (le-leb _ list_limit t.nonces_few))

  pub nonces_fit : NoncesTaken message key_ids nonces → length nonces ≤ 1056
  nonces_fit t = omega (arith, t.nonces_few, t.nonces_whole, div-add-mod' (length nonces) 66)

-- the frame, then the three parts
pub put-nonces :
    (out : List ℕ) (g : Header) (message key_ids nonces : List ℕ)
    → put (put (put (put out 0 (header_bytes g ++ pairs 56 (length message ∷ (length key_ids * 4 ∷ (length nonces ∷ []))))) 56 message)
    (56 + length message) (id_bytes key_ids)) (56 + length message + length key_ids * 4) nonces
    ≡ put out 0 (packet g (message ∷ (id_bytes key_ids ∷ (nonces ∷ []))))
put-nonces out g message key_ids nonces =
    let ps = message ∷ (id_bytes key_ids ∷ (nonces ∷ [])) in
    rw (← length-id_bytes key_ids) (put-parts _ 56 ps ∙ put-framed out g ps 56 refl)

-- 9 of a share response, by lengths
module _ (ids z_i counts key_ids : List ℕ) where
  abbrev pub shares_within : Bool
  shares_within = leb (length ids) list_limit && leb (length key_ids) list_limit && lists_agree ids z_i counts key_ids

  pub shares-tested :
      (h : ResponseHead)
      → lists_agree ids z_i counts key_ids && within (signature_share_response (share_response_given h ids z_i counts key_ids)) ≡ shares_within
  unfolding within share_response_given
  shares-tested h = go (lists_agree ids z_i counts key_ids) refl
    where
      turned : (b : Bool) → b ≡ b && true
      turned true = refl
      turned false = refl

      go :
          (b : Bool) → lists_agree ids z_i counts key_ids ≡ b
          → let ss = shares_given ids z_i counts key_ids in
          b && (leb (length ss) list_limit && leb (key_count ss) list_limit)
          ≡ leb (length ids) list_limit && leb (length key_ids) list_limit && b
      go true e =
          let n = counted ids z_i counts key_ids (agreed ids z_i counts key_ids e) in
          rw (n.0, n.1) (turned _)
      go false e = rw and_false

  pub shares_passed : shares_within ≡ true → SharesTaken ids z_i counts key_ids
  shares_passed e =
      let few : leb (length ids) list_limit && leb (length key_ids) list_limit ≡ true = and_left _ _ e in
      record {
        shares_few = leb-true (length ids) list_limit (and_left _ _ few);
        keys_few = leb-true (length key_ids) list_limit (and_right (leb (length ids) list_limit) _ few);
        agree = agreed ids z_i counts key_ids (and_right (leb (length ids) list_limit && leb (length key_ids) list_limit) _ e);
      }

  pub shares_asked : SharesTaken ids z_i counts key_ids → shares_within ≡ true
  shares_asked t =
      and_both _ _ (and_both _ _ (le-leb (length ids) list_limit t.shares_few) (le-leb (length key_ids) list_limit t.keys_few))
      (agreeing ids z_i counts key_ids t.agree)

-- its packet
module _ (ids z_i counts key_ids : List ℕ) (a : Agree ids z_i counts key_ids) where
  shares_count : length (map share_bytes (shares_given ids z_i counts key_ids)) ≡ length ids
  shares_count = rw length-map (counted ids z_i counts key_ids a).0

  -- header and pairs, then the shares
  pub put-shares-after :
      (out : List ℕ) (g : Header)
      → let at = 32 + length ids * 8 in
      let ps = map share_bytes (shares_given ids z_i counts key_ids) in
      put (put (put out 0 (header_bytes g)) 32 (pairs at (map share_length counts))) at (joined ps) ≡ put out 0 (packet g ps)
  put-shares-after out g =
      let ps = map share_bytes (shares_given ids z_i counts key_ids) in
      let n : length ps ≡ length ids = shares_count in
      rw (← lengths_given ids z_i counts key_ids a, put_next out 0 (header_bytes g) 32 _ (omega (arith, length-header_bytes g)))
      (put-framed out g ps (32 + length ids * 8) (omega arith))

  module _ (h : ResponseHead) where
    pub shares-packet :
        encode (signature_share_response (share_response_given h ids z_i counts key_ids))
        ≡ packet (header_of 4 0 (length ids) h.signer_id.0 h.ids) (map share_bytes (shares_given ids z_i counts key_ids))
    unfolding encode header parts share_response_given
    shares-packet = rw (counted ids z_i counts key_ids a).0

    pub shares-length :
        length (encode (signature_share_response (share_response_given h ids z_i counts key_ids))) ≡ share_response_length ids key_ids
    shares-length =
        let sizes = lengths_given ids z_i counts key_ids a in
        rw (shares-packet, length-parts, shares_count, sizes, total_lengths counts, a.counts_each, a.counts_sum) (omega arith)
