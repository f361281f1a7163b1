-- `current_place`: the message's live bytes are looked for.
-- Assumes nothing.
use Prim.Native.Nat.{ℕ}
use mathlib.Core.Path.{ap, ◌∙◌}
use mathlib.Core.List.{List}
use Rattle.records.specs.Records.{record_place}
use Rattle.timeouts.specs.NonceTimeout.{current_place}
use Rattle.timeouts.proofs.current_place.Goals as goal

pub returns : goal.returns
unfolding current_place
returns c = c.place.ensures ∙ ap (λ (m : List ℕ). record_place m c.args.s.records c.args.store.now) c.live.ensures.0
