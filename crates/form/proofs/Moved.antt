-- Bytes say the same wherever they begin: what a form reads from a place on is what it reads of the bytes that begin there. Each piece that the
-- code reads so keeps it.
-- Assumes nothing.
use Prim.Native.Nat.{ℕ, zero, suc, ◌+◌}
use Prim.Native.String.{String}
use mathlib.Core.Path.{◌≡◌, refl, sym, ap, ◌∙◌}
use mathlib.Core.List.{List, []}
use native.Mathlib.Nat.{add-zero, add_assoc}
use native.Mathlib.Omega.{arith}
use lib.Dec.{eqb}
use lib.ListN.{take, drop}
use lib.Seq.{get_or-drop, drop-drop}
use Rattle.wire.specs.Bytes.{number}
use Rattle.form.specs.Form as F
use Rattle.form.specs.Form.{Form, Fields, Like, each_at, place}
use Rattle.form.proofs.Lawful.{Lawful}

pub record Moves {A : Type 0} (G : Form A) : Type 0 where
  pub moved : (k : ℕ) (s : List ℕ) (at : ℕ) → G.load (drop k s) at ≡ G.load s (k + at)

pub number_moves : (w : ℕ) → Moves (F.number w)
unfolding F.number
number_moves w = record { moved = λ k s at. ap (λ l. number (take w l)) (drop-drop at k s) }

pub flag_moves : Moves F.flag
unfolding F.flag
flag_moves = record { moved = λ k s at. ap (λ x. eqb x 1) (get_or-drop k s at 0) }

pub each_moves : {A : Type 0} (n : ℕ) {G : Form A} → Moves G → Moves (F.each n G)
unfolding F.each each_at
each_moves n {G} m = record { moved = λ k s at. all k s at n }
  where
    all : (k : ℕ) (s : List ℕ) (at n : ℕ) → each_at G.load G.width (drop k s) at n ≡ each_at G.load G.width s (k + at) n
    all k s at zero = refl
    all k s at (suc n) = rw (m.moved k s at, all k s (at + G.width) n, add_assoc k at G.width)

-- fields, one after the other
pub record FieldsMove {T : Type 0} (Gs : Fields T) : Type 0 where
  pub moved : (k : ℕ) (s : List ℕ) (at j : ℕ) → Gs.loads (drop k s) at j ≡ Gs.loads s (k + at) j

place_moved : (k at j : ℕ) → k + place at j ≡ place (k + at) j
place_moved k at zero = refl
place_moved k at (suc j) = omega arith

pub end_moves : FieldsMove F.end
unfolding F.end
end_moves = record { moved = λ k s at j. refl }

pub field_moves : {A T : Type 0} (name : String) {G : Form A} {Gs : Fields T} → Moves G → FieldsMove Gs → FieldsMove (F.field name G Gs)
unfolding F.field
field_moves name {G} {Gs} m ms =
    record { moved = λ k s at j. rw (m.moved k s (place at j), place_moved k at j, ms.moved k s at (j + G.width)) }

pub tuple_moves : {T : Type 0} {Gs : Fields T} → FieldsMove Gs → Moves (F.tuple Gs)
unfolding F.tuple
tuple_moves ms = record { moved = λ k s at. ms.moved k s at 0 }

pub like_moves : {S T : Type 0} (l : Like S T) {G : Form T} → Moves G → Moves (F.like l G)
unfolding F.like
like_moves l m = record { moved = λ k s at. ap l.whole (m.moved k s at) }

-- a value's own bytes say it
pub part_loaded : {A : Type 0} {G : Form A} → Lawful G → Moves G → (s : List ℕ) (at : ℕ) → G.load (take G.width (drop at s)) 0 ≡ G.load s at
part_loaded {G = G} g m s at =
    g.front G.width (drop at s) 0 (omega arith) ∙ m.moved at s 0 ∙ ap (λ (n : ℕ). G.load s n) (add-zero at)
