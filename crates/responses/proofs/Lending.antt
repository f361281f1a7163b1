-- What the writers answer and leave in the buffer, over the message: by the two questions; and where its packet has what.
-- Assumes nothing.
use Rattle.std.specs.Prelude.{Err, Ok}
use Prim.Native.Nat.{ℕ, ◌≤◌, ◌<◌}
use mathlib.Core.Path.{◌≡◌, refl, sym, ap, ◌∙◌}
use mathlib.Core.Bool.{Bool, true, false, cond, ◌&&◌, false≢true}
use mathlib.Core.List.{List, map}
use native.Mathlib.Omega.{arith}
use lib.Dec.{ltb}
use lib.ListN.{length, length-map}
use borrow.Author.Tests.{ltb-true, ltb-false, lt-ltb, le-ltb}
use Rattle.wire.specs.Bytes.{put, joined}
use Rattle.wire.proofs.Lists.{and_left, and_right, all_imp, map_back}
use Rattle.layout.specs.Messages.{NonceResponse, SignatureShareResponse, Message, nonce_response, signature_share_response}
use Rattle.layout.specs.Encode.{header_of, id_bytes, nonce_bytes, share_bytes, response_parts, header, parts, encode}
use Rattle.layout.specs.LaidOut.{header_in, part_at, parts_from}
use Rattle.layout.specs.Decode.{ids_in, share_in, within}
use Rattle.layout.specs.Fits.{ResponseFits, ShareResponseFits, Fits}
use Rattle.layout.proofs.Entries.{ids_in-id_bytes, share_in_share_bytes}
use Rattle.layout.proofs.Frame.{header_in_packet, parts_from_packet}
use Rattle.layout.proofs.Written.{headers}
use Rattle.layout.proofs.RoundTrip.{within_addressable}
use Rattle.framing.specs.Writing.{Writing, written, refused, Wrote, answer, buffer}
use Rattle.framing.proofs.Laws.{put_whole}
use Rattle.responses.specs.Responses.{lending}
use Rattle.responses.specs.ReadBack.{lent, Answers, above, short, whole}

module _ (room : ℕ) (agree : Bool) (m : Message) where
  lending-cases :
      (P : Writing → Type 0) → (agree && within m ≡ false → P (refused 9))
      → (agree && within m ≡ true → room < length (encode m) → P (refused 26))
      → (agree && within m ≡ true → length (encode m) ≤ room → P (written (encode m)))
      → P (lending room agree m)
  unfolding lending
  lending-cases P f g h = go (agree && within m) (ltb room (length (encode m))) refl refl
    where
      go :
          (fine small : Bool) → agree && within m ≡ fine → ltb room (length (encode m)) ≡ small
          → P (cond fine (cond small (refused 26) (written (encode m))) (refused 9))
      go true true e l = g e (ltb-true room (length (encode m)) l)
      go true false e l = h e (ltb-false room (length (encode m)) l)
      go false small e l = f e

  pub lending_taken : agree ≡ true → within m ≡ true → lending room agree m ≡ lent room (encode m)
  unfolding lending
  lending_taken a w = rw (a, w)

  -- what is written is the message's packet
  pub record Lent (s : List ℕ) : Type 0 where
    pub agrees : agree ≡ true
    pub limited : within m ≡ true
    pub bytes : encode m ≡ s
    pub fits : length (encode m) ≤ room

  pub lending_written : (s : List ℕ) → lending room agree m ≡ written s → Lent s
  lending_written s =
      lending-cases (λ w. w ≡ written s → Lent s) (λ e q. unwritten 9 q) (λ e l q. unwritten 26 q)
      (λ e l q. record { agrees = and_left agree _ e; limited = and_right agree _ e; bytes = cc; fits = l })
    where
      unwritten : {P : Type 0} (n : ℕ) → refused n ≡ written s → P
      unwritten n e = let z : ◌≡◌ {A = ℕ} 0 1 = cc in let f : ⊥ = omega arith in absurd f

  -- the three answers, by what 9 asks and by the packet's length
  pub lending-answers :
      {Taken : Type 0} {size : ℕ} → (agree && within m ≡ true → Taken) → (Taken → agree && within m ≡ true)
      → (Taken → length (encode m) ≡ size) → Answers Taken size room (lending room agree m)
  lending-answers {Taken} {size} passed asked long =
      lending-cases (Answers Taken size room)
      (λ e. above (λ t. false≢true (sym e ∙ asked t)))
      (λ e l. let t = passed e in short t (rw (long t) at l))
      (λ e l. let t = passed e in whole t (rw (long t) at l) (long t))

-- what a writer that asks these answers and leaves in the buffer
module _ (out : List ℕ) (agree : Bool) (m : Message) where
  pub lent_9 : agree && within m ≡ false → Wrote (lending (length out) agree m) out (Err 9) out
  unfolding lending answer buffer
  lent_9 f = rw f (record { answered = refl; buffered = refl })

  module _ (f : agree && within m ≡ true) (n : ℕ) (size : length (encode m) ≡ n) where
    pub lent_26 : length out < n → Wrote (lending (length out) agree m) out (Err 26) out
    unfolding lending answer buffer
    lent_26 h = rw (f, lt-ltb (length out) (length (encode m)) (omega arith)) (record { answered = refl; buffered = refl })

    pub lent-wrote :
        n ≤ length out → (after : List ℕ) → after ≡ put out 0 (encode m) → Wrote (lending (length out) agree m) out (Ok n) after
    unfolding lending answer buffer
    lent-wrote h after p =
        rw (f, le-ltb (length out) (length (encode m)) (omega arith))
        (record { answered = ap Ok (sym size); buffered = p ∙ put_whole out (encode m) (omega arith) })

-- the packet of a message within the limits has the message's header and its parts
module _ (m : Message) (f : Fits m) (w : within m ≡ true) where
  header_encoded : header_in (encode m) ≡ header m
  unfolding encode
  header_encoded = let a = within_addressable m f w in header_in_packet (header m) (parts m) (headers m f a.1).fits a.0

  parts_encoded : parts_from (encode m) 32 (length (parts m)) ≡ parts m
  unfolding encode
  parts_encoded = let a = within_addressable m f w in parts_from_packet (header m) (parts m) (headers m f a.1).fits a.0

-- where header and lists of a nonce response stand
pub record ResponseAt (r : NonceResponse) (s : List ℕ) : Type 0 where
  pub header_at : header_in s ≡ header_of 2 0 3 r.signer_id r.ids
  pub message_at : part_at s 32 ≡ r.message
  pub keys_at : ids_in (part_at s 40) ≡ r.key_ids
  pub nonces_at : part_at s 48 ≡ joined (map nonce_bytes r.nonces)

pub response_at_law : (r : NonceResponse) → ResponseFits r → within (nonce_response r) ≡ true → ResponseAt r (encode (nonce_response r))
unfolding header parts response_parts parts_from
response_at_law r f w =
    let m = nonce_response r in
    let p : parts_from (encode m) 32 3 ≡ parts m = parts_encoded m f w in
    let ids : part_at (encode m) 40 ≡ id_bytes r.key_ids = cc in
    record {
      header_at = header_encoded m f w;
      message_at = cc;
      keys_at = rw ids (ids_in-id_bytes r.key_ids f.key_ids);
      nonces_at = cc;
    }

-- where header and shares of a share response stand
pub record SharesAt (r : SignatureShareResponse) (s : List ℕ) : Type 0 where
  pub header_at : header_in s ≡ header_of 4 0 (length r.signature_shares) r.signer_id r.ids
  pub shares_at : map share_in (parts_from s 32 (length r.signature_shares)) ≡ r.signature_shares

pub shares_at :
    (r : SignatureShareResponse) → ShareResponseFits r → within (signature_share_response r) ≡ true
    → SharesAt r (encode (signature_share_response r))
unfolding header parts
shares_at r f w =
    let m = signature_share_response r in
    let ss = r.signature_shares in
    let p : parts_from (encode m) 32 (length ss) ≡ map share_bytes ss = rw length-map at (parts_encoded m f w) in
    record {
      header_at = header_encoded m f w;
      shares_at = rw p (map_back share_bytes share_in ss (all_imp ss share_in_share_bytes f.signature_shares));
    }
