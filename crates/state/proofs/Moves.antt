-- A move's answer looks at a root only beside a type 3, where all 32 bytes stand for it: the struct's answer is that of what it stands for.
-- Assumes nothing.
use Rattle.std.specs.Prelude.{None, Some}
use mathlib.Core.Path.{◌≡◌, refl, ap, sym, ◌∙◌}
use mathlib.Core.Bool.{Bool, ◌&&◌}
use mathlib.Core.List.{List}
use Prim.Native.Nat.{ℕ}
use native.Mathlib.Omega.{arith}
use lib.ListN.{length}
use lib.Seq.{take_all}
use Rattle.layout.specs.declared.SignatureType.{SignatureType}
use Rattle.layout.specs.declared.SignatureType.TheVariants.{Frost, Schnorr, Taproot, TaprootRoot}
use Rattle.layout.specs.Types.{root_length}
use Rattle.state_table.specs.declared.State.{State}
use Rattle.state_table.specs.States.{state_number, position, type_in, same_type, types_agree, StateType}
use Rattle.state_table.specs.Moves.{can_move_to, allowed}
use Rattle.state_table.proofs.Table.{move-table}
use Rattle.state.specs.View.{root_bytes}

module _ (root root' : List ℕ) (h : length root ≡ 32) (h' : length root' ≡ 32) where
  same-type :
      (t t' : SignatureType) → same_type t root t' root' ≡ same_type t (root_bytes (Some t) root) t' (root_bytes (Some t') root')
  unfolding same_type root_bytes root_length
  same-type Frost t' = refl
  same-type Schnorr t' = refl
  same-type Taproot t' = refl
  same-type TaprootRoot Frost = refl
  same-type TaprootRoot Schnorr = refl
  same-type TaprootRoot Taproot = refl
  same-type TaprootRoot TaprootRoot = rw (take_all 32 root (omega arith), take_all 32 root' (omega arith))

  the_types_agree : (a b : StateType) → types_agree a root b root' ≡ types_agree a (root_bytes a root) b (root_bytes b root')
  unfolding types_agree
  the_types_agree a None = refl
  the_types_agree None (Some t') = refl
  the_types_agree (Some t) (Some t') = same-type t t'

  pub move-viewed :
      (s s' : State)
      → can_move_to (position s root) (position s' root')
      ≡ can_move_to (position s (root_bytes (type_in s) root)) (position s' (root_bytes (type_in s') root'))
  move-viewed s s' =
      let raw = position s root in
      let raw' = position s' root' in
      let seen = position s (root_bytes (type_in s) root) in
      let seen' = position s' (root_bytes (type_in s') root') in
      move-table raw raw'
      ∙ ap (λ (b : Bool). allowed (state_number s) (state_number s') && b) (the_types_agree (type_in s) (type_in s'))
      ∙ sym (move-table seen seen')
