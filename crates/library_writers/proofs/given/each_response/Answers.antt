-- `each_response`: each of the ten.
-- Assumes nothing.
use borrow.Author.Rules.{rules}
use Rattle.library_writers.specs.Given.{response_of}
use Rattle.library_writers.proofs.Each.{each_map}
use Rattle.library_writers.proofs.given.each_response.Goals as goal

pub returns : goal.returns
returns c =
    each_map response_of c.args.given c.map.result 10 c.well_formed.0.1.0.1 c.map.ensures.items.long
    (λ i d e l. let call = c.map.ensures.items.at i d e l in search rules)
