-- Somebody is waited for where the list of the waiters counts one.
-- Assumes nothing.
use Prim.Native.Nat.{ℕ, zero, suc, ◌≤◌}
use mathlib.Core.Path.{◌≡◌, refl, ◌∙◌}
use mathlib.Core.List.{List, [], ◌∷◌, map}
use native.Mathlib.Omega.{arith}
use borrow.Author.Tests.{lt-ltb}
use lib.Dec.{ltb}
use lib.ListN.{length, take, length-map}
use Rattle.layout.specs.Limits.{signer_limit}
use Rattle.pieces.specs.declared.places.SignerIds.{SignerIds}
use Rattle.pieces.specs.Places.{signers_of, signer_number}
use Rattle.step_definition.specs.SigShareGather.{any_waits}
use Rattle.state.specs.declared.fields.Config.{Config}
use Rattle.state.specs.declared.fields.SignRoundInfo.{SignRoundInfo}
use Rattle.state.specs.Slots.{collect}
use Rattle.state.specs.View.{slots_of, row_of, flagged_in}
use Rattle.signer_ids.specs.Flags.{is_waiting}
use Rattle.signer_ids.proofs.Listing.{waiters_flagged}

any_of : (n : ℕ) (xs : List ℕ) → n ≤ length xs → ltb 0 n ≡ any_waits (take n xs)
unfolding any_waits
any_of zero xs h = refl
any_of (suc n) [] h = let z : ⊥ = omega arith in absurd z
any_of (suc n) (x ∷ xs) h = lt-ltb 0 (suc n) (omega arith)

pub any_counted : (list : SignerIds) → length list.ids ≡ signer_limit → list.count ≤ signer_limit → ltb 0 list.count ≡ any_waits (signers_of list)
unfolding signers_of
any_counted list ten few = any_of list.count (map signer_number list.ids) (rw length-map (omega arith))

pub waiters_listed : (g : Config) (row : SignRoundInfo) (r : ℕ) (store : List ℕ) (list : SignerIds)
    → signers_of list ≡ collect (flagged_in (map is_waiting row.slots)) (slots_of g) → signers_of list ≡ (row_of (slots_of g) store r row).sign_wait_signer_ids
unfolding row_of
waiters_listed g row r store list e = e ∙ waiters_flagged row.slots (slots_of g)
