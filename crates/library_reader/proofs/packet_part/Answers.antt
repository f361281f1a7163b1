-- The place that a pair names, or nothing.
-- Assumes nothing.
use Prim.Native.Nat.{ℕ}
use mathlib.Core.Path.{◌∙◌, ap}
use Rattle.std.specs.Prelude.{Result}
use Rattle.std.specs.Result.{result_unwrap_or}
use Rattle.library_reader.proofs.Inside.{there, missing}
use Rattle.library_reader.proofs.packet_part.Goals as goal

pub returns-then-i-pairs : goal.returns-then-i-pairs
returns-then-i-pairs c =
    let e = c.unwrap_or-pairs.ensures ∙ ap (λ (r : Result ℕ ℕ). result_unwrap_or r 0) c.count_pairs.ensures in
    there c.args.s.now _ c.args.i e _ _ c.if-i-pairs.true c.u32_at.ensures c.u32_at-then-i-pairs.ensures

pub returns-else-i-pairs : goal.returns-else-i-pairs
returns-else-i-pairs c =
    let e = c.unwrap_or-pairs.ensures ∙ ap (λ (r : Result ℕ ℕ). result_unwrap_or r 0) c.count_pairs.ensures in
    missing c.args.s.now _ c.args.i e c.if-i-pairs.false
