-- Each field is read where the layout has it; a field of one byte is that byte.
-- Assumes nothing.
use mathlib.Core.Path.{◌∙◌, sym}
use Rattle.wire.proofs.Numbers.{number_one}
use Rattle.layout.specs.LaidOut.{header_in}
use Rattle.frame.proofs.header.Goals as goal

pub returns : goal.returns
unfolding header_in
returns c = let s = c.args.s.now in
    let kind = c.byte.ensures ∙ sym (number_one 0 s) in
    let type = c.byte-2.ensures ∙ sym (number_one 1 s) in
    cc
