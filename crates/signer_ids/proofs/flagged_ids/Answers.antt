-- `flagged_ids`: the ids that the closure gives are those of the definition.
-- Assumes nothing.
use mathlib.Core.Path.{sym, ap, ◌∙◌}
use mathlib.Core.List.{List, map}
use borrow.Author.Rules.{rules}
use Rattle.std.proofs.lemmas.List.{take-map}
use Rattle.layout.specs.declared.SignerId.{SignerId}
use Rattle.pieces.specs.Places.{signers_of, signer_number}
use Rattle.signers.specs.Order.{ordered}
use Rattle.signer_ids.specs.Flags.{flagged_id}
use Rattle.signer_ids.proofs.Listing.{flagged_numbers}
use Rattle.signer_ids.proofs.flagged_ids.Goals as goal

pub returns : goal.returns
unfolding signers_of
returns c =
    let a = c.args in
    let filled = c.along-count.ensures.filled (flagged_id a.flags) (λ e r i s p. search rules) in
    (rw take-map (ap (λ (xs : List SignerId). map signer_number xs) filled ∙ sym (flagged_numbers a.flags (ordered a.o))), c.along-count.ensures.few)
