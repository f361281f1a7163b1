-- Which bytes the test of an element looks at.
-- Assumes nothing.
use Prim.Native.Nat.{ℕ, ◌+◌}
use mathlib.Core.Path.{◌≡◌, refl, sym, ap, ◌∙◌}
use mathlib.Core.Bool.{Bool, true, ◌&&◌}
use mathlib.Core.List.{List}
use Rattle.wire.proofs.Lists.{and_yes}
use Rattle.layout.specs.Limits.{list_limit, signer_limit}
use Rattle.form.specs.Form.{flag, each, every_at, pieces}
use Rattle.state_bytes.specs.Description.{key_form, signer_form, ids_form, slot_form, row_form, share_form}
use Rattle.saved_test.proofs.Testing.{every_true}

module _ (s : List ℕ) where
  -- keys are numbers: of a signer, only whether it has a set is looked at
  pub signer_left : (at : ℕ) → signer_form.left s at ≡ flag.left s (at + 4)
  unfolding pieces signer_form key_form
  signer_left at =
      let keys : every_at key_form.left key_form.width s (at + 5) list_limit ≡ true = every_true 4 s key_form.left (λ a. refl) (at + 5) list_limit in
      and_yes _ _ (sym (ap (λ (b : Bool). b && true) keys))

  pub share_left : (at : ℕ) → share_form.left s at ≡ flag.left s at
  unfolding pieces share_form
  share_left at = and_yes _ true refl

  pub row_left : (at : ℕ) → row_form.left s at ≡ (each signer_limit slot_form).left s (at + 8)
  unfolding pieces row_form
  row_left at = and_yes _ true refl
