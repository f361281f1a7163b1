-- What is read of a slot's own bytes, and of a key list's, is what the whole state says there.
-- Assumes nothing.
use Prim.Native.Nat.{ℕ}
use mathlib.Core.Path.{◌≡◌}
use mathlib.Core.List.{List}
use lib.ListN.{take, drop}
use Rattle.layout.specs.Limits.{list_limit}
use Rattle.form.specs.Form.{pieces, each}
use Rattle.form.proofs.Lawful.{each_lawful}
use Rattle.form.proofs.Moved.{Moves, number_moves, flag_moves, each_moves, end_moves, field_moves, tuple_moves, like_moves, part_loaded}
use Rattle.state_bytes.specs.Description.{slot_form, ids_form, key_form}
use Rattle.state_bytes.proofs.Described.{slot_lawful, key_lawful}

ruleset moving = (number_moves, flag_moves, each_moves, end_moves, field_moves, tuple_moves, like_moves)

slot_moves : Moves slot_form
unfolding slot_form ids_form
slot_moves = search moving depth 16

key_moves : Moves key_form
unfolding key_form
key_moves = search moving depth 8

pub slot_part : (s : List ℕ) (at : ℕ) → slot_form.load (take 50 (drop at s)) 0 ≡ slot_form.load s at
unfolding pieces slot_form ids_form
slot_part s at = part_loaded slot_lawful slot_moves s at

pub keys_part : (s : List ℕ) (at : ℕ) → (each list_limit key_form).load (take 64 (drop at s)) 0 ≡ (each list_limit key_form).load s at
unfolding pieces key_form
keys_part s at = part_loaded (each_lawful list_limit key_lawful) (each_moves list_limit key_moves) s at
