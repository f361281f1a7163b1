-- Which types, roots and sign ids are said, by 01's names.
-- Assumes nothing.
use Prim.Native.Nat.{ℕ, ◌<◌}
use mathlib.Core.Path.{◌≡◌, refl}
use mathlib.Core.Bool.{true, false}
use mathlib.Core.List.{List}
use native.Mathlib.Omega.{arith}
use borrow.Author.Tests.{eqb-true, eq-eqb, ne_eqb, le-leb, lt-leb}
use lib.Dec.{leb}
use lib.ListN.{length}
use Rattle.wire.proofs.Lists.{and_false}
use Rattle.layout.specs.declared.SignatureType.{SignatureType}
use Rattle.layout.specs.declared.SignatureType.TheVariants.{Frost, Schnorr, Taproot, TaprootRoot}
use Rattle.layout.specs.Types.{type_number, root_length}
use Rattle.state_table.specs.declared.State.TheVariants.{SigShareGather}
use Rattle.state_table.specs.States.{state_number}
use Rattle.step_definition.specs.Ids as D
use Rattle.state.specs.declared.fields.Coordinator.{Coordinator}
use Rattle.state.specs.Turns.{error_turn}
use Rattle.starts.specs.Starts.{sign_id_of, SignId}
use Rattle.form.proofs.Reading.{over_zeros}
use Rattle.library_start.specs.Given.{last_type, last_state, root_given, given_sign_id, type_said, started_turn, moved_turn}

-- every type that 01 has is said, with the root that 01 gives it: "root (32 bytes for type 3, else 0)"
pub types_said : (t : SignatureType) (root : List ℕ) → length root ≡ root_length (type_number t) → type_said (type_number t) root ≡ true
unfolding type_said root_length
types_said Frost root e = refl
types_said Schnorr root e = refl
types_said Taproot root e = refl
types_said TaprootRoot root e = eq-eqb (length root) 32 e

-- beside another type than a Taproot root any root will do
pub root-not_asked : (n : ℕ) (root : List ℕ) → n < type_number TaprootRoot → type_said n root ≡ true
unfolding type_said
root-not_asked n root l =
    let other : n ≡ 3 → ⊥ = λ e. omega (arith, e, l) in
    rw (le-leb n 3 (omega arith), ne_eqb n 3 other)

-- a Taproot root that is said has 32 bytes, and is taken as it is: nothing is padded or cut
pub root-whole : (root : List ℕ) → type_said (type_number TaprootRoot) root ≡ true → (length root ≡ 32) × (root_given root ≡ root)
unfolding type_said root_given root_length
root-whole root h = let e = eqb-true (length root) 32 h in (e, over_zeros 32 root e)

pub no_more_types : (n : ℕ) (root : List ℕ) → type_number TaprootRoot < n → type_said n root ≡ false
unfolding type_said
no_more_types n root l = rw (lt-leb n 3 l)

-- the last state that can be asked for, and the last type, by their names; a state above it is refused with 8
pub last_state_law : (t : SignatureType) → last_state ≡ state_number (SigShareGather t)
last_state_law t = refl

pub last_type_law : last_type ≡ type_number TaprootRoot
last_type_law = refl

pub no_more-states :
    (next n : ℕ) (root : List ℕ) (s : Coordinator) (store : List ℕ) → state_number (SigShareGather TaprootRoot) < next
    → moved_turn next n root s store ≡ error_turn 8 s store
unfolding moved_turn
no_more-states next n root s store l = rw (lt-leb next 14 l)

-- what isn't said is refused with 8, in a start and in a move question, and nothing changes
module _ (n : ℕ) (root : List ℕ) (no_type : type_said n root ≡ false) (s : Coordinator) (store : List ℕ) where
  pub not-started :
      (clock : ℕ) (message : List ℕ) (id : SignId) (room : ℕ) → started_turn clock message n root id room s store ≡ error_turn 8 s store
  unfolding started_turn
  not-started clock message id room = rw no_type

  pub not_moved : (next : ℕ) → moved_turn next n root s store ≡ error_turn 8 s store
  unfolding moved_turn
  not_moved next = rw (no_type, and_false (leb next 14))

-- a sign id that isn't given is the one after the last; one that is given, by 2 as well as by 1, is the round's own
module _ (given n last : ℕ) where
  pub not_given : given ≡ 0 → sign_id_of (given_sign_id given n) last ≡ D.next last
  unfolding given_sign_id sign_id_of
  not_given e = rw (eq-eqb given 0 e)

  pub is_given : (given ≡ 0 → ⊥) → sign_id_of (given_sign_id given n) last ≡ n
  unfolding given_sign_id sign_id_of
  is_given e = rw (ne_eqb given 0 e)
