-- `put_signers`: what is still to be written completes the list.
-- Assumes nothing.
use mathlib.Core.Path.{◌≡◌, sym, ap, ◌∙◌}
use mathlib.Core.List.{map}
use native.Mathlib.Omega.{arith}
use lib.ListN.{length-map, get_or-map}
use Rattle.layout.specs.Encode.{id_bytes}
use Rattle.pieces.specs.Places.{signer_number, signers_of}
use Rattle.writer.specs.Columns.{number_bytes}
use Rattle.writer.proofs.Numbers.{one_more, all_of_it, map_live}
use Rattle.writer.proofs.results.put_signers.Goals as goal

pub loop-i-preserved : goal.loop-i-preserved
loop-i-preserved c =
    let ids = c.live-signer-items.result.now in
    rw c.put_number.ensures
    (one_more _ _ _ (omega arith) (rw length-map c.loop-i-test.true) (sym (get_or-map signer_number ids c.loop-i.i _)) c.loop-i.invariant)

-- nothing is left to write after the loop
pub returns : goal.returns
unfolding signers_of id_bytes number_bytes
returns c =
    let list = c.args.list.now in
    let live = c.live-signer-items in
    let all : map signer_number live.result.now ≡ signers_of list = ap (map signer_number) live.ensures ∙ map_live signer_number list.ids list.count in
    rw (← all) (all_of_it (rw length-map c.loop-i-test.false) c.loop-i.invariant)
