-- `arrivals_along`: the arrivals that the closure gives are those of the definition.
-- Assumes nothing.
use mathlib.Core.Path.{sym, ap, ◌∙◌}
use mathlib.Core.List.{List, map}
use borrow.Author.Rules.{rules}
use Rattle.std.proofs.lemmas.List.{take-map}
use Rattle.pieces.specs.declared.places.Arrival.{Arrival}
use Rattle.pieces.specs.Places.{arrivals_of, arrival_of}
use Rattle.signers.specs.Order.{ordered}
use Rattle.arrivals.specs.Walks.{arrival_at}
use Rattle.arrivals.proofs.Listing.{arrivals_mapped}
use Rattle.arrivals.proofs.walks.arrivals_along.Goals as goal

pub returns : goal.returns
unfolding arrivals_of
returns c =
    let a = c.args in
    let filled = c.along-count.ensures.filled (arrival_at a.row.slots) (λ e r i s p. search rules) in (
      rw take-map (ap (λ (xs : List Arrival). map arrival_of xs) filled ∙ sym (arrivals_mapped a.row.slots (ordered a.o))),
      c.along-count.ensures.few,
    )
