-- `save`: fourteen parts, each at its place.
-- Assumes nothing.
use mathlib.Core.Path.{refl}
use native.Mathlib.Omega.{arith}
use Rattle.form.proofs.Writing.{then, last, written}
use Rattle.state_bytes.specs.Description.{description}
use Rattle.state_bytes.specs.Saved.{saved}
use Rattle.state_bytes.proofs.Described.{ids-long, clocks-long}
use Rattle.saving.proofs.states.save.Goals as goal

pub returns : goal.returns
unfolding saved description
returns c =
    written
    (then refl (omega arith) c.copy.ensures
    (then refl (omega arith) c.put_number.ensures
    (then refl (omega arith) c.put_flag.ensures
    (then c.put_config.ensures.long (omega arith) c.put_config.ensures.written
    (then (ids-long c.args.s.now.ids) (omega arith) c.put_ids.ensures
    (then c.put_position.ensures.long (omega arith) c.put_position.ensures.written
    (then c.put_message.ensures.long (omega arith) c.put_message.ensures.written
    (then c.put_records.ensures.long (omega arith) c.put_records.ensures.written
    (then c.put_each.ensures.long (omega arith) c.put_each.ensures.written
    (then c.put_marks.ensures.long (omega arith) c.put_marks.ensures.written
    (then (clocks-long c.args.s.now.clocks) (omega arith) c.put_clocks.ensures
    (then refl (omega arith) c.put_keys.ensures
    (then refl (omega arith) c.put_flag-2.ensures
    (last c.put_number-2.ensures))))))))))))))
