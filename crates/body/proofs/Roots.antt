-- Laws of a head's root.
-- Assumes nothing.
use Prim.Native.Nat.{◌≤◌}
use mathlib.Core.Path.{◌≡◌}
use mathlib.Core.List.{List}
use native.Mathlib.Omega.{arith}
use lib.ListN.{length, length-take}
use lib.Seq.{length-take-le}
use mir.Val.{Val}
use denote.Laws.{Is}
use Rattle.layout.specs.Types.{type_number, root_length}
use Rattle.layout.proofs.Limits.{root-length}
use Rattle.body.specs.declared.RequestHead.{RequestHead}
use Rattle.body.specs.contracts.RequestHead as Head
use Rattle.body.specs.Body.{root_of}

-- a root is short
pub length-root_of : (h : RequestHead) → length (root_of h) ≤ 32
unfolding root_of
length-root_of h = rw length-take (omega (arith, root-length h.signature_type))
