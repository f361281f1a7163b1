-- Which calls demand 3's second half leaves out: "a list without start, reset or commissioning", each of these and no other.
-- Assumes nothing.
use mathlib.Core.Path.{◌≡◌, refl, sym}
use mathlib.Core.Bool.{true, false, false≢true}
use Rattle.step_definition.specs.Configuration.{Config}
use Rattle.step_definition.specs.Calls.{Start, Request, commission, other}
use Rattle.step_definition.specs.Calls.{Operation, set_key, take_results, can_move, start_signing, receive, process_timeout, aggregated}
use Rattle.step_definition.specs.Calls.{reset, tell_arrivals}
use Rattle.step_definition.specs.Demand3.{plain_operation, plain_request}

pub data LeftOut : Request → Type 0 where
  a_start : (s : Start) → LeftOut (other (start_signing s))
  a_reset : LeftOut (other reset)
  a_commissioning : (g : Config) → LeftOut (commission g)

operation_left_out : (o : Operation) → plain_operation o ≡ false → LeftOut (other o)
unfolding plain_operation
operation_left_out (set_key which held) e = absurd (false≢true (sym e))
operation_left_out (take_results dkg ended) e = absurd (false≢true (sym e))
operation_left_out (can_move p) e = absurd (false≢true (sym e))
operation_left_out (start_signing s) e = a_start s
operation_left_out (receive entry bytes) e = absurd (false≢true (sym e))
operation_left_out process_timeout e = absurd (false≢true (sym e))
operation_left_out (aggregated ok) e = absurd (false≢true (sym e))
operation_left_out reset e = a_reset
operation_left_out tell_arrivals e = absurd (false≢true (sym e))

-- a call that may not stand in the list is one of these
pub only_left_out : (r : Request) → plain_request r ≡ false → LeftOut r
unfolding plain_request
only_left_out (commission g) e = a_commissioning g
only_left_out (other o) e = operation_left_out o e

-- and none of these may stand in it
pub left_out : {r : Request} → LeftOut r → plain_request r ≡ false
unfolding plain_request plain_operation
left_out (a_start s) = refl
left_out a_reset = refl
left_out (a_commissioning g) = refl
