-- What a commissioning did: refused, or commissioned.
-- Assumes nothing.
use Rattle.std.specs.Prelude.{Err, Ok}
use Prim.Native.Nat.{ℕ}
use mathlib.Core.Path.{◌≡◌}
use mathlib.Core.List.{List, []}
use lib.ListN.{length, replicate}
use Rattle.state.specs.declared.answers.Done.{Done}
use Rattle.state.specs.Turns.{Did, plain_answer, refused_answer}
use Rattle.state.proofs.Turns.{refused_did, quiet_did}
use Rattle.configuration.specs.declared.new_config.NewConfig.{NewConfig}
use Rattle.configuration.specs.NewConfig.{new_config_of, new_asked}
use Rattle.commission.specs.Commission.{uncommissioned_struct, fresh_of, commission_turn}

module _ (g : NewConfig) (store : List ℕ) where
  pub refused-commission :
      {n : ℕ} {r : Done} → new_asked (new_config_of g) ≡ Err n → r ≡ record { answer = refused_answer n; after = uncommissioned_struct }
      → Did (commission_turn g store) [] r store []
  unfolding commission_turn
  refused-commission e d = refused_did store [] _ e d

  pub done-commission :
      {r : Done} {store' : List ℕ} → new_asked (new_config_of g) ≡ (Ok tt) → r ≡ record { answer = plain_answer; after = fresh_of g }
      → store' ≡ replicate (length store) 0 → Did (commission_turn g store) [] r store' []
  unfolding commission_turn
  done-commission e d z = rw z (quiet_did uncommissioned_struct store (replicate (length store) 0) [] e d)
