-- Commissioning gives what the step says, whatever was held before.
-- Assumes nothing.
use Rattle.std.specs.Prelude.{Err, Ok}
use Prim.Native.Nat.{ℕ}
use mathlib.Core.Path.{◌≡◌, refl, ap, ◌∙◌}
use mathlib.Core.Bool.{Bool, true, false, cond}
use mathlib.Core.List.{List, []}
use lib.ListN.{length, replicate}
use Rattle.layout.specs.Limits.{signer_limit}
use Rattle.step_definition.specs.Configuration as D
use Rattle.step_definition.specs.Coordinator as C
use Rattle.step_definition.specs.Calls as A
use Rattle.step_definition.specs.Step.{on_commission, step_of, step}
use Rattle.state.specs.declared.fields.Config.{Config}
use Rattle.state.specs.Slots.{collect}
use Rattle.state.specs.Counts.{config_within, records_within, is_within_limits}
use Rattle.state.specs.View.{view, held_if, coordinator_of, standing_of, round_of, rows_from, position_of, root_bytes, reading, config_of, flagged_in, slots_of}
use Rattle.state.specs.Turns.{Turn, turn, unless, Refines}
use Rattle.state.proofs.Arrays.{get_d_same}
use Rattle.state.proofs.Collect.{collect_none}
use Rattle.state.proofs.Within.{is_within}
use Rattle.state.proofs.Refines.{view_held, call_of}
use Rattle.state.proofs.Viewed.{no_shares_law, no_shares-within}
use Rattle.configuration.specs.declared.new_config.NewConfig.{NewConfig}
use Rattle.configuration.specs.NewConfig.{new_config_of, new_asked}
use Rattle.configuration.specs.Made.{config_from}
use Rattle.configuration.proofs.Asked.{asked_all, accepted}
use Rattle.configuration.proofs.Viewed.{kept_within, kept_viewed}
use Rattle.commission.specs.Commission.{no_records, no_marks, no_message, at_idle, fresh_with, uncommissioned_struct, fresh_of, commission_turn}

-- a fresh struct passes question 4 where its configuration does
fresh-within : (g : Config) → config_within g ≡ true → is_within_limits (fresh_with true g) ≡ true
unfolding records_within no_records no_message
fresh-within g w = is_within (fresh_with true g) (record { config = w; message = refl; records = refl; shares = no_shares-within g.count })

-- it stands for a fresh coordinator, at any store
fresh-viewed : (g : Config) (store : List ℕ) → coordinator_of (fresh_with true g) store ≡ C.fresh (config_of g)
unfolding coordinator_of standing_of round_of rows_from position_of root_bytes no_records no_marks no_message at_idle
fresh-viewed g store = rw (nobody, no_shares_law (slots_of g) store)
  where
    nobody : collect (flagged_in (replicate signer_limit false)) (slots_of g) ≡ []
    nobody = collect_none (flagged_in (replicate signer_limit false)) (slots_of g) (λ e. rw (get_d_same signer_limit e.slot false))

-- a configuration that is accepted: its struct passes question 4, and stands for the fresh coordinator of that configuration, ascending
module _ (g : NewConfig) (long : length g.signers ≡ 11) (yes_all : new_asked (new_config_of g) ≡ (Ok tt)) where
  pub fresh_counts : is_within_limits (fresh_of g) ≡ true
  unfolding fresh_of
  fresh_counts = fresh-within (config_from g) (kept_within g long (accepted g long yes_all) (asked_all (new_config_of g) yes_all).2)

  pub fresh_stands : (store : List ℕ) → view (fresh_of g) store ≡ C.commissioned (C.fresh (D.ascending (new_config_of g)))
  unfolding fresh_of
  fresh_stands store =
      let kept = config_from g in
      let same = kept_viewed g long (accepted g long yes_all) (asked_all (new_config_of g) yes_all).0 in
      view_held (fresh_with true kept) store refl fresh_counts ∙ ap C.commissioned (fresh-viewed kept store ∙ ap C.fresh same)

module _ (g : NewConfig) (store : List ℕ) (long : length g.signers ≡ 11) where
  abbrev n : D.Config
  n = new_config_of g

  abbrev rest : Turn
  rest = turn A.plain (fresh_of g) (replicate (length store) 0)

  refuses : (k : ℕ) → Refines (unless (Err k) uncommissioned_struct store rest) (A.outcome (A.refusing A.error k []) [] C.uncommissioned)
  unfolding unless view held_if uncommissioned_struct
  refuses k = record { answer = refl; events = refl; after = refl }

  commissions :
      D.question1 n ≡ true → D.question2 n ≡ true → D.question3 n ≡ true
      → Refines (unless (Ok tt) uncommissioned_struct store rest) (A.outcome A.plain [] (C.commissioned (C.fresh (D.ascending n))))
  unfolding unless new_asked
  commissions a b c = record { answer = refl; events = refl; after = fresh_stands g long (rw (a, b, c)) (replicate (length store) 0) }

  pub commission-refines :
      (h : C.Held) (clock room : ℕ) (verdict : Bool)
      → Refines (commission_turn g store) (step (call_of (A.commission (new_config_of g)) clock verdict (length store) room) h)
  unfolding step_of on_commission commission_turn new_asked unless
  commission-refines h clock room verdict = by (D.question1 n) (D.question2 n) (D.question3 n) refl refl refl
    where
      by :
          (a b c : Bool) → D.question1 n ≡ a → D.question2 n ≡ b → D.question3 n ≡ c
          → Refines (unless (cond a (cond b (cond c (Ok tt) (Err 3)) (Err 2)) (Err 1)) uncommissioned_struct store rest)
          (cond a
          (cond b
          (cond c (A.outcome A.plain [] (C.commissioned (C.fresh (D.ascending n)))) (A.outcome (A.refusing A.error 3 []) [] C.uncommissioned))
          (A.outcome (A.refusing A.error 2 []) [] C.uncommissioned))
          (A.outcome (A.refusing A.error 1 []) [] C.uncommissioned))
      by true true true p q r = commissions p q r
      by true true false p q r = refuses 3
      by true false c p q r = refuses 2
      by false b c p q r = refuses 1
