-- Question 8, then 9; the header of a message that is taken is the packet's.
-- Assumes nothing.
use Rattle.layout.specs.Decode.{decode}
use Rattle.layout.proofs.Headed.{header-message_in}
use Rattle.packet.specs.Reading.{reading}
use native.Mathlib.Omega.{arith}
use Rattle.std.proofs.lemmas.Grind.{common_steps}
use Rattle.packet.proofs.reader.read.Goals as goal

pub returns-then-not-is_laid_out : goal.returns-then-not-is_laid_out
unfolding reading decode
returns-then-not-is_laid_out c = grind (arith, common_steps)

pub returns-then-not-is_within : goal.returns-then-not-is_within
unfolding reading decode
returns-then-not-is_within c = grind (arith, common_steps)

pub returns : goal.returns
unfolding reading decode
returns c = grind (arith, common_steps, header-message_in c.args.s.now)
