-- `put_reading`: whether there is a reading, then its eight bytes.
-- Assumes nothing.
use Prim.Native.Nat.{ℕ}
use mathlib.Core.Path.{◌≡◌, refl, sym, ap, ◌∙◌}
use mathlib.Core.List.{List, [], ◌∷◌}
use native.Mathlib.Omega.{arith}
use Rattle.std.specs.Option.{is_some, unwrap_or}
use Rattle.std.specs.Prelude.{None, Some}
use Rattle.state.specs.Clock.{Reading}
use Rattle.wire.specs.Bytes.{le, put, joined}
use Rattle.form.specs.Form.{pieces, bit}
use Rattle.state_bytes.specs.Description.{reading_form, reading_parts}
use Rattle.form.proofs.Writing.{then, last, written}
use Rattle.saving_fields.proofs.fields.put_reading.Goals as goal

saved_reading : (r : Reading) → joined ((bit (is_some r) ∷ []) ∷ le 8 (unwrap_or r 0) ∷ []) ≡ reading_form.save r
unfolding pieces reading_form reading_parts
saved_reading None = refl
saved_reading (Some n) = refl

pub returns : goal.returns
unfolding pieces
returns c =
    let bytes = rw (c.unwrap_or.ensures) at c.put_number.ensures in
    let flag = rw (c.is_some.ensures) at c.put_flag.ensures in
    written (then refl (omega arith) flag (last bytes)) ∙ ap (put c.args.out.now c.args.at) (saved_reading c.args.r)
