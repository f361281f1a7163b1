-- `numbers_of`: each key's number.
-- Assumes nothing.
use mathlib.Core.Path.{◌≡◌}
use native.Mathlib.Omega.{arith}
use borrow.Author.Rules.{rules}
use lib.ListN.{length, length-map, get_or-map}
use Rattle.std.proofs.lemmas.List.{same_lists}
use Rattle.validity.specs.Keys.{key_of, key_number}
use Rattle.configuration.proofs.questions.numbers_of.Goals as goal

pub returns : goal.returns
returns c =
    let all : length c.args.keys ≡ 17 = search rules in
    same_lists _ _ (rw length-map (omega (arith, c.map.ensures.items.long))) (λ k d h. let m = c.map.ensures.items.at k (key_of d) d (omega (arith, c.map.ensures.items.long)) in rw (get_or-map key_number c.args.keys k (key_of d)) (search (rules, m)))
