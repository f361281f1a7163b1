-- `put_on_record`: once it is recorded, its message has a record.
-- Assumes nothing.
use borrow.Author.Rules.{rules}
use Rattle.state.proofs.Shape.{shape}
use Rattle.nonce_gather.specs.NonceGather.{recorded_turn}
use Rattle.nonce_gather.proofs.Recording.{placed, recorded}
use mathlib.Core.Path.{sym, ◌∙◌}
use native.Mathlib.Omega.{arith}
use Rattle.std.proofs.lemmas.Grind.{common_steps}
use Rattle.nonce_gather.proofs.gather.put_on_record.Goals as goal

pub add-records-requires : goal.add-records-requires
add-records-requires c =
    placed c.requires.0 c.args.clock _ _ _ _ (shape _ _ c.well_formed.0) c.requires.1

pub on_record-requires : goal.on_record-requires
on_record-requires c =
    rw (c.add-records.ensures.value, c.add-records.ensures.store_after)
    (recorded c.requires.0 c.args.clock _ _ _ _ (shape _ _ c.well_formed.0) c.requires.1)

pub returns : goal.returns
unfolding recorded_turn
returns c =
    rw (← c.add-records.ensures.value, ← c.add-records.ensures.store_after) c.on_record.ensures
