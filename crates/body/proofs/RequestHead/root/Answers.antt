-- `root`: the length of the type, at most 32, of an array of 32.
-- Assumes nothing.
use mathlib.Core.Path.{ap, ◌∙◌}
use native.Mathlib.Omega.{arith}
use lib.ListN.{take}
use Prim.Native.Nat.{ℕ}
use Rattle.layout.specs.Types.{root_length}
use Rattle.layout.proofs.Limits.{root-length}
use Rattle.body.specs.Body.{root_of}
use Rattle.body.proofs.RequestHead.root.Goals as goal

pub shared_ref_as_front-result : goal.shared_ref_as_front-result
shared_ref_as_front-result c = omega (arith, c.root_length.ensures ∙ ap root_length c.type_number.ensures, root-length c.args.self.now.signature_type)

pub returns : goal.returns
unfolding root_of
returns c = ap (λ (n : ℕ). take n c.args.self.now.root) (c.root_length.ensures ∙ ap root_length c.type_number.ensures)
