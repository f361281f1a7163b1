-- Laws of what a writer answers and leaves in the buffer, over the header and the parts.
-- Assumes nothing.
use Rattle.std.specs.Prelude.{Err, None, Ok, Some}
use Prim.Native.Nat.{ℕ, ◌+◌, ◌*◌, ◌-◌, ◌≤◌, ◌<◌}
use mathlib.Core.Path.{◌≡◌, refl, sym, ap, ◌∙◌}
use mathlib.Core.Bool.{Bool, true, false}
use mathlib.Core.List.{List, [], ◌∷◌, ◌++◌, map, append-nil, append_assoc, map-append}
use native.Mathlib.Nat.{zero-add, add-zero, add_assoc}
use native.Mathlib.Omega.{arith}
use lib.ListN.{length, take, drop, length-append, length-drop}
use borrow.Author.Tests.{lt-ltb, le-ltb, le-leb, lt-leb}
use Rattle.std.specs.List.{sum}
use Rattle.std.proofs.lemmas.List.Sums.{sum_by-cons}
use Rattle.wire.specs.Bytes.{le, put, joined}
use Rattle.wire.proofs.Numbers.{length-le}
use Rattle.wire.proofs.Buffer.{put-put, put_next, put_inside, put_part}
use Rattle.wire.proofs.Lists.{joined_append}
use Rattle.layout.specs.declared.Header.{Header}
use Rattle.layout.specs.Encode.{table, header_bytes, packet}
use Rattle.layout.proofs.Frame.{length-header_bytes, length-table, length-packet}
use Rattle.layout.specs.Limits.{answer_length}
use Rattle.framing.specs.Writing.{writing, answer, buffer, Wrote, room_for, lent_after, pairs, total}

-- numbers, one after the other
pub put-field : (l : List ℕ) (at n x : ℕ) (rest : List ℕ) → put (put l at (le n x)) (at + n) rest ≡ put l at (le n x ++ rest)
put-field l at n x rest = put_next l at (le n x) (at + n) rest (ap (λ (k : ℕ). at + k) (length-le n x))

-- bytes that fit, put at the front
pub put_whole : (out bytes : List ℕ) → length bytes ≤ length out → put out 0 bytes ≡ bytes ++ drop (length bytes) out
put_whole out bytes h = put_inside out 0 bytes (omega arith) ∙ ap (λ (k : ℕ). bytes ++ drop k out) (zero-add (length bytes))

-- what a writer answers and leaves: too short a buffer, a limit that is passed, and the bytes put
module _ (out : List ℕ) (fine : Bool) (bytes : List ℕ) where
  pub refused_7 : length out < answer_length → Wrote (writing (length out) fine bytes) out (Err 7) out
  unfolding writing answer buffer
  refused_7 h = rw (lt-ltb (length out) answer_length h) (record { answered = refl; buffered = refl })

  module _ (room : answer_length ≤ length out) where
    pub refused_9 : fine ≡ false → Wrote (writing (length out) fine bytes) out (Err 9) out
    unfolding writing answer buffer
    refused_9 f = rw (le-ltb (length out) answer_length room, f) (record { answered = refl; buffered = refl })

    pub wrote :
        fine ≡ true → (n : ℕ) (after : List ℕ) → length bytes ≡ n → n ≤ answer_length → after ≡ put out 0 bytes
        → Wrote (writing (length out) fine bytes) out (Ok n) after
    unfolding writing answer buffer
    wrote f n after e fits p =
        rw (le-ltb (length out) answer_length room, f) (record { answered = ap Ok (sym e); buffered = p ∙ put_whole out bytes (omega arith) })

-- what the kind 2 writer answers and leaves: too short a part, and the bytes put
module _ (out bytes : List ℕ) (n : ℕ) (size : length bytes ≡ n) where
  pub lent_short : length out < n → (None ≡ room_for (length out) bytes) × (out ≡ lent_after bytes out)
  unfolding room_for lent_after
  lent_short h = rw (lt-leb (length bytes) (length out) (omega arith)) (refl, refl)

  pub lent_whole : n ≤ length out → (after : List ℕ) → after ≡ put out 0 bytes → (Some n ≡ room_for (length out) bytes) × (after ≡ lent_after bytes out)
  unfolding room_for lent_after
  lent_whole h after p = rw (le-leb (length bytes) (length out) (omega arith)) (ap Some (sym size), p ∙ put_whole out bytes (omega arith))

-- a packet that fits, written into the part that starts at `at`
pub put_lent : (out : List ℕ) (at : ℕ) (bytes : List ℕ) → at + length bytes ≤ length out → take at out ++ lent_after bytes (drop at out) ≡ put out at bytes
unfolding lent_after
put_lent out at bytes h =
    let size : length (drop at out) ≡ length out - at = length-drop at out in
    rw (le-leb (length bytes) (length (drop at out)) (omega arith), ← put_whole (drop at out) bytes (omega arith), put_part out at 0 bytes (omega arith), add-zero)

-- the pairs, by lengths alone and by parts
pub pairs-table : (at : ℕ) (ps : List (List ℕ)) → pairs at (map length ps) ≡ table at ps
unfolding pairs table
pairs-table at [] = refl
pairs-table at (p ∷ ps) = rw (pairs-table (at + length p) ps)

pub total_lengths : (ps : List (List ℕ)) → total (map length ps) ≡ length (joined ps)
unfolding total
total_lengths [] = refl
total_lengths (p ∷ ps) = rw (length-append, total_lengths ps)

-- the sum of lengths is std's sum
pub total_sum : (xs : List ℕ) → total xs ≡ sum xs
unfolding total
total_sum [] = refl
total_sum (x ∷ xs) = ap (λ (n : ℕ). x + n) (total_sum xs) ∙ sym (sum_by-cons (λ (y : ℕ). y) x xs)

pub length-parts : (h : Header) (ps : List (List ℕ)) → length (packet h ps) ≡ 32 + 8 * length ps + total (map length ps)
length-parts h ps = rw (length-packet, total_lengths ps)

-- what a writer's calls leave: pairs one by one, parts one by one
abbrev pub put_pairs : List ℕ → ℕ → ℕ → List ℕ → List ℕ
put_pairs l p at [] = l
put_pairs l p at (n ∷ ns) = put_pairs (put l p (le 4 at ++ le 4 n)) (p + 8) (at + n) ns

abbrev pub put_parts : List ℕ → ℕ → List (List ℕ) → List ℕ
put_parts l at [] = l
put_parts l at (p ∷ ps) = put_parts (put l at p) (at + length p) ps

-- a pair, then those after it
pub put_pair_next :
    (l : List ℕ) (p at n : ℕ) (ns : List ℕ) → put (put l p (le 4 at ++ le 4 n)) (p + 8) (pairs (at + n) ns) ≡ put l p (pairs at (n ∷ ns))
unfolding pairs
put_pair_next l p at n ns =
    put_next l p (le 4 at ++ le 4 n) (p + 8) (pairs (at + n) ns) (rw (length-append, length-le, length-le))
    ∙ ap (put l p) (append_assoc (le 4 at) (le 4 n) (pairs (at + n) ns))

pub put-pairs : (l : List ℕ) (p at : ℕ) (ns : List ℕ) → put_pairs l p at ns ≡ put l p (pairs at ns)
unfolding put pairs
put-pairs l p at [] = refl
put-pairs l p at (n ∷ ns) = put-pairs (put l p (le 4 at ++ le 4 n)) (p + 8) (at + n) ns ∙ put_pair_next l p at n ns

pub put-parts : (l : List ℕ) (at : ℕ) (ps : List (List ℕ)) → put_parts l at ps ≡ put l at (joined ps)
unfolding put
put-parts l at [] = refl
put-parts l at (p ∷ ps) = put-parts (put l at p) (at + length p) ps ∙ put-put l at p (joined ps)

-- the header, then the pairs
pub put-frame :
    (out : List ℕ) (h : Header) (at : ℕ) (ns : List ℕ) → put_pairs (put out 0 (header_bytes h)) 32 at ns ≡ put out 0 (header_bytes h ++ pairs at ns)
put-frame out h at ns = rw put-pairs (put_next out 0 (header_bytes h) 32 (pairs at ns) (omega (arith, length-header_bytes h)))

-- header and pairs, then the parts: the packet
pub put-framed :
    (out : List ℕ) (h : Header) (ps : List (List ℕ)) (at : ℕ) → at ≡ 32 + 8 * length ps
    → put (put out 0 (header_bytes h ++ pairs at (map length ps))) at (joined ps) ≡ put out 0 (packet h ps)
unfolding packet
put-framed out h ps at e =
    let size : length (header_bytes h ++ table at ps) ≡ 32 + 8 * length ps = rw (length-append, length-header_bytes h, length-table at ps) in
    rw (pairs-table at ps, put_next out 0 (header_bytes h ++ table at ps) at (joined ps) (omega arith), append_assoc, e)

pub put-packet :
    (out : List ℕ) (h : Header) (ps : List (List ℕ)) (at : ℕ) → at ≡ 32 + 8 * length ps
    → put_parts (put_pairs (put out 0 (header_bytes h)) 32 at (map length ps)) at ps ≡ put out 0 (packet h ps)
put-packet out h ps at e = rw (put-parts, put-frame out h at (map length ps)) (put-framed out h ps at e)

-- pairs after pairs
pub pairs_append : (at : ℕ) (ms ns : List ℕ) → pairs at ms ++ pairs (at + total ms) ns ≡ pairs at (ms ++ ns)
unfolding pairs total
pairs_append at [] ns = rw add-zero
pairs_append at (m ∷ ms) ns = rw (append_assoc, append_assoc, ← add_assoc, pairs_append (at + m) ms ns)

-- a packet in two lots: header and pairs of the first parts, the pairs of the others, the first parts, the others
pub put_lots :
    (out : List ℕ) (h : Header) (ps qs : List (List ℕ)) (at p ends : ℕ)
    → at ≡ 32 + 8 * (length ps + length qs) → p ≡ 32 + 8 * length ps → ends ≡ at + length (joined ps)
    → put (put (put (put out 0 (header_bytes h ++ pairs at (map length ps))) p (pairs ends (map length qs))) at (joined ps)) ends (joined qs)
    ≡ put out 0 (packet h (ps ++ qs))
put_lots out h ps qs at p ends a e e' =
    let frame = header_bytes h ++ pairs at (map length ps) in
    let size : length frame ≡ 32 + 8 * length ps = rw (length-append, length-header_bytes h, pairs-table at ps, length-table at ps) in
    let all : frame ++ pairs ends (map length qs) ≡ header_bytes h ++ pairs at (map length (ps ++ qs)) =
    rw (append_assoc, e', ← total_lengths ps, pairs_append at (map length ps) (map length qs), map-append length ps qs) in
    rw (put_next out 0 frame p (pairs ends (map length qs)) (omega arith), all, put_next _ at (joined ps) ends (joined qs) (sym e'), ← joined_append ps qs)
    (put-framed out h (ps ++ qs) at (rw length-append a))

-- kinds 1 and 3: message and root, then what is nested
module _ (h : Header) (message root : List ℕ) (rs : List (List ℕ)) (at : ℕ) (e : at ≡ 48 + 8 * length rs) where
  pub put-request :
      (out : List ℕ)
      → let ends = at + length message + length root in
      put (put (put (put out 0 (header_bytes h ++ pairs at (length message ∷ (length root ∷ [])))) 48 (pairs ends (map length rs))) at (message ++ root)) ends (joined rs)
      ≡ put out 0 (packet h (message ∷ (root ∷ rs)))
  put-request out =
      let body : joined (message ∷ (root ∷ [])) ≡ message ++ root = rw append-nil in
      rw (← body) (put_lots out h (message ∷ (root ∷ [])) rs at 48 _ (omega arith) refl (rw (body, length-append) (omega arith)))

  pub length_request : length (packet h (message ∷ (root ∷ rs))) ≡ at + length message + length root + total (map length rs)
  unfolding total
  length_request = rw length-parts (omega arith)
