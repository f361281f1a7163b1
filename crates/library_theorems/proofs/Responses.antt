-- A signer's packets, as a C host has them: written, read back by the library's reader, and written again.
-- Assumes nothing.
use Prim.Native.Nat.{ℕ, zero, suc, ◌+◌, ◌*◌, ◌≤◌, ◌<◌}
use mathlib.Core.Path.{◌≡◌, refl, sym, ap, ◌∙◌}
use mathlib.Core.List.{List, map}
use native.Mathlib.Omega.{arith}
use borrow.Author.Tests.{lt-ltb, le-ltb}
use lib.ListN.{length, take, drop}
use lib.Seq.{take_at, drop_at}
use mir.Val.{Val}
use denote.Laws.{Is}
use Rattle.wire.specs.Bytes.{Bytes}
use Rattle.layout.specs.declared.Header.{Header}
use Rattle.layout.specs.Messages.{Message, nonce_response, signature_share_response}
use Rattle.layout.specs.Encode.{header}
use Rattle.layout.specs.LaidOut.{header_in, part_at, parts_from}
use Rattle.layout.specs.Decode.{ids_in, share_in, response_in, share_response_in, message_in, Decoded, taken, refused, decode}
use Rattle.layout.specs.Fits.{IdsListed}
use Rattle.layout.proofs.Headed.{header-message_in}
use Rattle.layout.proofs.RoundTrip.{taken-laid}
use Rattle.framing.specs.Writing.{Writing, written, answer, buffer}
use Rattle.parts.specs.Parts.{part_in}
use Rattle.std.specs.Result.{result_unwrap_or}
use Rattle.packet_in_hand.specs.InHand.{counted}
use Rattle.library_reader.specs.declared.RcPacket.{RcPacket}
use Rattle.library_reader.specs.Plain.{plain_header, packet_of}
use Rattle.responses.specs.declared.lists.ResponseHead.{ResponseHead}
use Rattle.responses.specs.Responses.{nonce_response_given, share_response_given}
use Rattle.responses.specs.contracts.lists.ResponseHead as ResponseHead-row
use Rattle.responses.specs.ReadBack.{HeadFits, nonce_response_length, share_response_length, NoncesTaken, SharesTaken, Answers}
use Rattle.responses.specs.ReadBack.{ids_of, z_is_of, counts_of, key_ids_of, head_in, lent}
use Rattle.responses.specs.ReadBack as R
use Rattle.responses.proofs.ReadBack.{nonce-response-read, nonce-response-answers, nonce_response_back}
use Rattle.responses.proofs.ReadBack.{share-response-read, share-response-answers, share-response-back}
use Rattle.library_writers.specs.declared.given.RcResponseHead.{RcResponseHead}
use Rattle.library_writers.specs.declared.written.RcWritten.{RcWritten}
use Rattle.library_writers.specs.Given.{response_head_of}
use Rattle.coordinator_theorems.proofs.Given.{ids_fit}
use Rattle.library_writers.specs.contracts.given.RcResponseHead as RcResponseHead-row
use Rattle.library_writers.specs.Written.{WrotePlain}
use Rattle.library_theorems.specs.Responses.{WroteNonceResponse, WroteShareResponse, HeadHolds}
use Rattle.library_theorems.specs.Responses.{packet_told, part_told, parts_told, NonceResponseTold, ShareResponseTold}
use Rattle.library_theorems.specs.Responses.{refusing, Answered, above, short, whole, head_told, WrittenBack}

-- what is told of a packet that is taken: its pairs and parts, and the numbers of its header
module _ (s : List ℕ) (m : Message) (e : decode s ≡ taken m) where
  part_is : (i : ℕ) → i < (header m).pairs → part_told s i ≡ part_at s (32 + 8 * i)
  unfolding part_in counted
  part_is i l =
      let pairs : (result_unwrap_or (counted (decode s)) 0) ≡ (header m).pairs = ap (λ (d : Decoded). result_unwrap_or (counted d) 0) e in
      rw (lt-ltb i (result_unwrap_or (counted (decode s)) 0) (rw pairs l))

  parts_are : (i n : ℕ) → i + n ≤ (header m).pairs → parts_told s i n ≡ parts_from s (32 + 8 * i) n
  unfolding parts_told parts_from
  parts_are i zero l = refl
  parts_are i (suc n) l =
      let next : 32 + 8 * suc i ≡ 32 + 8 * i + 8 = omega arith in
      rw (part_is i (omega arith), parts_are (suc i) n (omega arith), next)

  header_is : header m ≡ header_in s
  header_is = let l = taken-laid s m e in ap header (sym l.1) ∙ header-message_in s l.0

  head_is : (reserved : ℕ) → response_head_of (head_told (packet_of (decode s)) reserved) ≡ head_in s
  unfolding packet_of response_head_of
  head_is reserved = ap (λ (p : RcPacket). response_head_of (head_told p reserved)) (ap packet_of e ∙ ap plain_header header_is)

-- a packet of a kind that the reader tells, which is 0 where it is not taken
kind-taken :
    (s : List ℕ) (k : ℕ) → (packet_of (decode s)).kind ≡ suc k → (decode s ≡ taken (message_in s)) × ((header_in s).kind ≡ suc k)
unfolding packet_of
kind-taken s k = by (decode s) refl
  where
    by : (d : Decoded) → decode s ≡ d → (packet_of d).kind ≡ suc k → (decode s ≡ taken (message_in s)) × ((header_in s).kind ≡ suc k)
    by (refused n) e q = let z : ⊥ = omega arith in absurd z
    by (taken m) e q = (e ∙ ap taken (sym (taken-laid s m e).1), sym (ap (λ (h : Header). h.kind) (header_is s m e)) ∙ q)

unrefused : {P : Type 0} (w : RcWritten) (n : ℕ) → w ≡ refusing (suc n) → w.refusal ≡ 0 → P
unrefused w n d e =
    let z : suc n ≡ 0 = sym (ap (λ (r : RcWritten). r.refusal) d) ∙ e in
    let f : ⊥ = omega arith in
    absurd f

-- what C is told of a writer's answer
module _ {Taken : Type 0} {size : ℕ} (out : List ℕ) (w : RcWritten) (out' : List ℕ) where
  answered : {g : Writing} → Answers Taken size (length out) g → WrotePlain g out w out' → Answered Taken size out w out'
  unfolding answer buffer
  answered (R.above f) d = rw (d.answered, d.buffered) (above f)
  answered (R.short t l) d = rw (d.answered, d.buffered) (short t l)
  answered (R.whole {s} t l e) d = rw (d.answered, d.buffered, e) (whole s t l e)

  -- where it is told no refusal, the bytes that it is told of are those written, and those past them are as they were
  told-bytes :
      {g : Writing} → Answers Taken size (length out) g → WrotePlain g out w out' → w.refusal ≡ 0
      → (g ≡ written (take w.length out')) × (drop w.length out' ≡ drop w.length out)
  unfolding answer buffer
  told-bytes (R.above f) d e = unrefused w 8 d.answered e
  told-bytes (R.short t l) d e = unrefused w 25 d.answered e
  told-bytes (R.whole {s} t l q) d e =
      let rest = drop (length s) out in
      rw (d.answered, d.buffered) (ap written (sym (take_at s rest (length s) refl)), drop_at s rest (length s) refl)

-- a packet handed on to a buffer
back :
    (s out : List ℕ) (w : RcWritten) (out' : List ℕ) (g : Writing) → g ≡ lent (length out) s → WrotePlain g out w out'
    → WrittenBack s out w out'
unfolding answer buffer
back s out w out' g e d =
    let d' : WrotePlain (lent (length out) s) out w out' = rw e at d in
    record {
      fits = λ l. let d'' = rw (le-ltb (length out) (length s) l) at d' in (d''.answered, d''.buffered);
      short = λ l. let d'' = rw (lt-ltb (length out) (length s) l) at d' in (d''.answered, d''.buffered);
    }

head_fits : (h : RcResponseHead) → HeadHolds h → HeadFits (response_head_of h)
unfolding response_head_of
head_fits h a =
    record { ids = record { dkg_id = a.dkg_id; sign_id = a.sign_id; sign_iter_id = a.sign_iter_id }; signer_id = a.signer_id }

-- rc_write_nonce_response: what it answers, what the reader tells of what it wrote, and a kind 2 packet that it is given again
module _ (out : List ℕ) (w : RcWritten) (out' : List ℕ) where
  module _ (h : RcResponseHead) (message key_ids nonces : List ℕ) (bn : Bytes nonces) where
    pub nonce-response-answered :
        WroteNonceResponse out h message key_ids nonces w out'
        → Answered (NoncesTaken message key_ids nonces) (nonce_response_length message key_ids nonces) out w out'
    nonce-response-answered = answered out w out' (nonce-response-answers (length out) (response_head_of h) message key_ids nonces bn)

    pub nonce-response-told :
        HeadHolds h → Bytes message → IdsListed key_ids → WroteNonceResponse out h message key_ids nonces w out' → w.refusal ≡ 0
        → NonceResponseTold h message key_ids nonces (take w.length out') × (drop w.length out' ≡ drop w.length out)
    unfolding packet_of header nonce_response_given response_head_of
    nonce-response-told a bm k d e =
        let s = take w.length out' in
        let b = told-bytes out w out' (nonce-response-answers (length out) (response_head_of h) message key_ids nonces bn) d e in
        let q = nonce-response-read (length out) (response_head_of h) message key_ids nonces bn (head_fits h a) bm k s b.0 in
        let part = part_is s (nonce_response (nonce_response_given (response_head_of h) message key_ids nonces)) q.decoded in (
          record {
            header_told = ap packet_of q.decoded;
            message_told = part 0 (omega arith) ∙ q.message_read;
            key_ids_told = ap ids_in (part 1 (omega arith)) ∙ q.key_ids_read;
            nonces_told = part 2 (omega arith) ∙ q.nonces_read;
          },
          b.1,
        )

  pub nonce-response-written-back :
      (s : List ℕ) (reserved : ℕ) → Bytes s → (packet_of (decode s)).kind ≡ 2
      → let h = head_told (packet_of (decode s)) reserved in
      WroteNonceResponse out h (part_told s 0) (ids_in (part_told s 1)) (part_told s 2) w out' → WrittenBack s out w out'
  unfolding message_in header
  nonce-response-written-back s reserved b k d =
      let t = kind-taken s 1 k in
      let e : decode s ≡ taken (nonce_response (response_in s)) = t.0 ∙ ap taken (rw t.1) in
      let part = part_is s (nonce_response (response_in s)) e in
      let g = nonce_response_back (length out) s b (response_in s) e in
      back s out w out' _ (rw (head_is s _ e reserved, part 0 (omega arith), part 1 (omega arith), part 2 (omega arith)) g) d

-- rc_write_signature_share_response: the same, of kind 4
module _ (out : List ℕ) (w : RcWritten) (out' : List ℕ) where
  module _ (h : RcResponseHead) (ids z_i counts key_ids : List ℕ) where
    pub share-response-answered :
        WroteShareResponse out h ids z_i counts key_ids w out'
        → Answered (SharesTaken ids z_i counts key_ids) (share_response_length ids key_ids) out w out'
    share-response-answered = answered out w out' (share-response-answers (length out) (response_head_of h) ids z_i counts key_ids)

    pub share-response-told :
        HeadHolds h → IdsListed ids → Bytes z_i → IdsListed key_ids
        → WroteShareResponse out h ids z_i counts key_ids w out' → w.refusal ≡ 0
        → ShareResponseTold h ids z_i counts key_ids (take w.length out') × (drop w.length out' ≡ drop w.length out)
    unfolding packet_of header header_in share_response_given response_head_of
    share-response-told a i bz k d e =
        let s = take w.length out' in
        let b = told-bytes out w out' (share-response-answers (length out) (response_head_of h) ids z_i counts key_ids) d e in
        let q = share-response-read (length out) (response_head_of h) ids z_i counts key_ids (head_fits h a) i bz k s b.0 in
        let m = signature_share_response (share_response_given (response_head_of h) ids z_i counts key_ids) in
        let n : (header m).pairs ≡ length ids = ap (λ (x : Header). x.pairs) (header_is s m q.decoded) ∙ q.head.pairs in
        let parts = parts_are s m q.decoded 0 (length ids) (omega (arith, n)) in (
          record {
            header_told = ap packet_of q.decoded ∙ ap (λ (c : ℕ). packet_told 4 c h) n;
            shares_told = rw parts q.shares;
          },
          b.1,
        )

  pub share-response-written-back :
      (s : List ℕ) (reserved : ℕ) → Bytes s → (packet_of (decode s)).kind ≡ 4
      → let p = packet_of (decode s) in
      let ss = map share_in (parts_told s 0 p.pairs) in
      WroteShareResponse out (head_told p reserved) (ids_of ss) (z_is_of ss) (counts_of ss) (key_ids_of ss) w out' → WrittenBack s out w out'
  unfolding message_in packet_of
  share-response-written-back s reserved b k d =
      let t = kind-taken s 3 k in
      let m = signature_share_response (share_response_in s) in
      let e : decode s ≡ taken m = t.0 ∙ ap taken (rw t.1) in
      let n : (packet_of (decode s)).pairs ≡ (header m).pairs = ap (λ (x : Decoded). (packet_of x).pairs) e in
      let same : (header m).pairs ≡ (header_in s).pairs = ap (λ (x : Header). x.pairs) (header_is s m e) in
      let parts : parts_told s 0 (packet_of (decode s)).pairs ≡ parts_from s 32 (header_in s).pairs =
      parts_are s m e 0 (packet_of (decode s)).pairs (omega (arith, n)) ∙ ap (parts_from s 32) (n ∙ same) in
      back s out w out' _ (rw (head_is s m e reserved, parts) (share-response-back (length out) s b (share_response_in s) e)) d

-- what is asked of a head's numbers holds of every value of its type, in Rattle and in C
pub all_heads_fit : (h : ResponseHead) (vs : List Val) → Is ResponseHead-row.the_row h vs → HeadFits h
all_heads_fit h vs g = record { ids = ids_fit h.ids _ g.1.1.0; signer_id = g.1.1.1.0.1.1.0.1 }

pub all_heads_hold : (h : RcResponseHead) (vs : List Val) → Is RcResponseHead-row.the_row h vs → HeadHolds h
all_heads_hold h vs g =
    let ids = g.1.1 in
    record { dkg_id = ids.0.1; sign_id = ids.1.0.1; sign_iter_id = ids.1.1.0.1; signer_id = ids.1.1.1.0.1 }
