-- The frame of a packet, header, pairs and parts, over any list of parts: what is written is read back, and what is read is written back.
-- Assumes nothing.
use Prim.Native.Nat.{ℕ, zero, suc, ◌+◌, ◌*◌, ◌-◌, ◌^◌, ◌≤◌, ◌<◌}
use mathlib.Core.Path.{◌≡◌, refl, sym, ap, subst, ◌∙◌}
use mathlib.Core.Bool.{true}
use mathlib.Core.List.{List, [], ◌∷◌, ◌++◌, append_assoc}
use native.Mathlib.Omega.{arith}
use lib.Dec.{eqb}
use lib.ListN.{length, take, drop, length-append, length-drop, drop_of_length-le}
use lib.Seq.{length-take-le}
use borrow.Author.Tests.{eqb-true, eq-eqb, le-leb}
use Rattle.wire.specs.Bytes.{Bytes, All, le, number_at, joined}
use Rattle.wire.proofs.Numbers.{length-le, number_at_lt, bytes_take, bytes_drop}
use Rattle.wire.proofs.Fields.{part_read, part_next, part_back, field_read, field_next, field-over}
use Rattle.wire.proofs.Lists.{and_left, and_right, and_both}
use Rattle.layout.specs.declared.Header.{Header}
use Rattle.layout.specs.Encode.{header_bytes, table, packet}
use Rattle.layout.specs.LaidOut.{header_in, part_at, parts_from, tiles, headed, framed}
use Rattle.layout.specs.Fits.{IdsFit}
use Rattle.layout.proofs.Headed.{framed_32, framed-tiles, length-parts_from}

pub record HeaderFits (h : Header) : Type 0 where
  pub kind : h.kind < 2 ^ 8
  pub type : h.signature_type < 2 ^ 8
  pub pairs : h.pairs < 2 ^ 16
  pub signer_id : h.signer_id < 2 ^ 32
  pub ids : IdsFit h.ids

-- the header in the first 32 bytes
pub length-header_bytes : (h : Header) → length (header_bytes h) ≡ 32
unfolding header_bytes
length-header_bytes h = simp (length-append, length-le)

module _ (h : Header) (s rest : List ℕ) (e : s ≡ header_bytes h ++ rest) where
  pub header_next : drop 32 s ≡ rest
  header_next = part_next 32 0 s (header_bytes h) rest (length-header_bytes h) e

  pub header_read : HeaderFits h → header_in s ≡ h
  unfolding header_bytes header_in
  header_read f =
      let e₀ = simp append_assoc at e in
      let e₁ = field_next 1 0 s h.kind _ e₀ in
      let e₂ = field_next 1 1 s h.signature_type _ e₁ in
      let e₄ = field_next 2 2 s h.pairs _ e₂ in
      let e₈ = field_next 4 4 s h.signer_id _ e₄ in
      let e₁₆ = field_next 8 8 s h.ids.dkg_id _ e₈ in
      let e₂₄ = field_next 8 16 s h.ids.sign_id _ e₁₆ in
      λ i. record {
        kind = field_read 1 0 s h.kind _ f.kind e₀ i;
        signature_type = field_read 1 1 s h.signature_type _ f.type e₁ i;
        pairs = field_read 2 2 s h.pairs _ f.pairs e₂ i;
        signer_id = field_read 4 4 s h.signer_id _ f.signer_id e₄ i;
        ids =
            record {
              dkg_id = field_read 8 8 s h.ids.dkg_id _ f.ids.dkg_id e₈ i;
              sign_id = field_read 8 16 s h.ids.sign_id _ f.ids.sign_id e₁₆ i;
              sign_iter_id = field_read 8 24 s h.ids.sign_iter_id _ f.ids.sign_iter_id e₂₄ i;
            };
      }

pub header-over : (s : List ℕ) → Bytes s → 32 ≤ length s → header_bytes (header_in s) ++ drop 32 s ≡ s
unfolding header_bytes header_in
header-over s b l =
    simp append_assoc
    (rw (
      field-over 8 24 s b (omega arith),
      field-over 8 16 s b (omega arith),
      field-over 8 8 s b (omega arith),
      field-over 4 4 s b (omega arith),
      field-over 2 2 s b (omega arith),
      field-over 1 1 s b (omega arith),
      field-over 1 0 s b (omega arith),
    ))

-- what is read fits its field
pub header_in-fits : (s : List ℕ) → Bytes s → HeaderFits (header_in s)
unfolding header_in
header_in-fits s b =
    record {
      kind = number_at_lt 1 0 s b;
      type = number_at_lt 1 1 s b;
      pairs = number_at_lt 2 2 s b;
      signer_id = number_at_lt 4 4 s b;
      ids = record { dkg_id = number_at_lt 8 8 s b; sign_id = number_at_lt 8 16 s b; sign_iter_id = number_at_lt 8 24 s b };
    }

-- the pairs
pub length-table : (at : ℕ) (qs : List (List ℕ)) → length (table at qs) ≡ 8 * length qs
unfolding table
length-table at [] = refl
length-table at (q ∷ qs) = simp (length-append, length-le, length-table (at + length q) qs) (omega arith)

eight : (p : ℕ) → p + 4 + 4 ≡ p + 8
eight p = omega arith

-- a table that stands at p, of parts that stand from `at` on to the end, tiles the packet and is read as those parts
pub tiles-table :
    (s : List ℕ) → length s < 2 ^ 32 → (qs : List (List ℕ)) (p at : ℕ) (rest : List ℕ)
    → at ≤ length s → drop p s ≡ table at qs ++ rest → drop at s ≡ joined qs
    → (tiles s p (length qs) at ≡ true) × (parts_from s p (length qs) ≡ qs)
unfolding table tiles parts_from part_at
tiles-table s small [] p at rest l t j = (eq-eqb at (length s) (omega (arith, length-drop at s, ap length j)), refl)
tiles-table s small (q ∷ qs) p at rest l t j =
    let size : length s - at ≡ length q + length (joined qs) = sym (length-drop at s) ∙ ap length j ∙ length-append q (joined qs) in
    let t₀ : drop p s ≡ le 4 at ++ (le 4 (length q) ++ (table (at + length q) qs ++ rest)) = simp append_assoc at t in
    let t₄ = field_next 4 p s at _ t₀ in
    let t₈ : drop (p + 8) s ≡ table (at + length q) qs ++ rest = rw eight at (field_next 4 (p + 4) s (length q) _ t₄) in
    let first : number_at 4 p s ≡ at = field_read 4 p s at _ (omega arith) t₀ in
    let count : number_at 4 (p + 4) s ≡ length q = field_read 4 (p + 4) s (length q) _ (omega arith) t₄ in
    let more = tiles-table s small qs (p + 8) (at + length q) rest (omega arith) t₈ (part_next (length q) at s q (joined qs) refl j) in
    (and_both _ _ (eq-eqb _ at first) (rw count more.0), rw (first, count, part_read (length q) at s q (joined qs) refl j, more.1))

-- pairs that tile the packet begin within it
pub tiles-le : (s : List ℕ) (p n at : ℕ) → tiles s p n at ≡ true → at ≤ length s
unfolding tiles
tiles-le s p zero at t = omega (arith, eqb-true at (length s) t)
tiles-le s p (suc n) at t = omega (arith, tiles-le s (p + 8) n (at + number_at 4 (p + 4) s) (and_right (eqb (number_at 4 p s) at) _ t))

-- and are the table of the parts that they name, which stand from `at` on
pub table-over :
    (s : List ℕ) → Bytes s → (p n at : ℕ) → tiles s p n at ≡ true → p + 8 * n ≤ length s
    → (table at (parts_from s p n) ++ drop (p + 8 * n) s ≡ drop p s) × (joined (parts_from s p n) ≡ drop at s)
unfolding table tiles parts_from part_at
table-over s b p zero at t l =
    let e : p + 8 * 0 ≡ p = omega arith in
    (ap (λ (k : ℕ). drop k s) e, sym (drop_of_length-le s {i = at} (omega (arith, eqb-true at (length s) t))))
table-over s b p (suc n) at t l =
    let count = number_at 4 (p + 4) s in
    let first : number_at 4 p s ≡ at = eqb-true _ at (and_left _ _ t) in
    let t' : tiles s (p + 8) n (at + count) ≡ true = and_right (eqb (number_at 4 p s) at) _ t in
    let fits : at + count ≤ length s = tiles-le s (p + 8) n (at + count) t' in
    let size : length (take count (drop at s)) ≡ count = length-take-le count (drop at s) (rw length-drop (omega arith)) in
    let next : p + 8 * suc n ≡ p + 8 + 8 * n = omega arith in
    let more = table-over s b (p + 8) n (at + count) t' (omega arith) in
    let e₄ : le 4 count ++ drop (p + 8) s ≡ drop (p + 4) s = rw eight at (field-over 4 (p + 4) s b (omega arith)) in
    let e₀ : le 4 at ++ drop (p + 4) s ≡ drop p s = rw first at (field-over 4 p s b (omega arith)) in
    (rw (first, size, next, append_assoc, append_assoc, more.0, e₄) e₀, rw (first, more.1) (part_back count at s))

pub bytes-part_at : (s : List ℕ) → Bytes s → (p : ℕ) → Bytes (part_at s p)
unfolding part_at
bytes-part_at s b p = let at = number_at 4 p s in bytes_take (number_at 4 (p + 4) s) (drop at s) (bytes_drop at s b)

pub bytes-parts_from : (s : List ℕ) → Bytes s → (p n : ℕ) → All Bytes (parts_from s p n)
unfolding parts_from
bytes-parts_from s b p zero = tt
bytes-parts_from s b p (suc n) = (bytes-part_at s b p, bytes-parts_from s b (p + 8) n)

-- the whole packet
pub length-packet : (h : Header) (ps : List (List ℕ)) → length (packet h ps) ≡ 32 + 8 * length ps + length (joined ps)
unfolding packet
length-packet h ps = simp (length-append, length-header_bytes, length-table) (omega arith)

module _ (h : Header) (ps : List (List ℕ)) (f : HeaderFits h) (small : length (packet h ps) < 2 ^ 32) where
  pub header_in_packet : header_in (packet h ps) ≡ h
  unfolding packet
  header_in_packet = header_read h (packet h ps) _ refl f

  read : (tiles (packet h ps) 32 (length ps) (32 + 8 * length ps) ≡ true) × (parts_from (packet h ps) 32 (length ps) ≡ ps)
  unfolding packet
  read =
      let at = 32 + 8 * length ps in
      let d : drop 32 (packet h ps) ≡ table at ps ++ joined ps = header_next h (packet h ps) _ refl in
      tiles-table (packet h ps) small ps 32 at (joined ps) (omega (arith, length-packet h ps)) d
      (part_next (8 * length ps) 32 (packet h ps) (table at ps) (joined ps) (length-table at ps) d)

  pub parts_from_packet : parts_from (packet h ps) 32 (length ps) ≡ ps
  parts_from_packet = read.1

  pub framed_packet : headed h ≡ true → h.pairs ≡ length ps → framed (packet h ps) ≡ true
  unfolding framed
  framed_packet e n =
      let t = subst (λ (k : ℕ). tiles (packet h ps) 32 k (32 + 8 * k) ≡ true) (sym n) read.0 in
      rw header_in_packet (and_both _ _ (and_both _ _ (le-leb 32 (length (packet h ps)) (omega (arith, length-packet h ps))) e) t)

pub packet-over : (s : List ℕ) → Bytes s → framed s ≡ true → packet (header_in s) (parts_from s 32 (header_in s).pairs) ≡ s
unfolding packet
packet-over s b f =
    let n = (header_in s).pairs in
    let t = framed-tiles s f in
    let back = table-over s b 32 n (32 + 8 * n) t (tiles-le s 32 n (32 + 8 * n) t) in
    rw (length-parts_from s 32 n, back.1, back.0) (header-over s b (framed_32 s f))
