-- `ids_in`: each id.
-- Assumes nothing.
use mathlib.Core.Path.{◌≡◌}
use native.Mathlib.Omega.{arith}
use borrow.Author.Rules.{rules}
use lib.ListN.{length, length-map, get_or-map}
use Rattle.std.proofs.lemmas.List.{same_lists}
use Rattle.configuration.specs.NewConfig.{signer_number}
use Rattle.configuration.proofs.Sets.{signer_of}
use Rattle.configuration.proofs.questions.ids_in.Goals as goal

pub returns : goal.returns
returns c =
    let all : length c.args.signers ≡ 11 = search rules in
    same_lists _ _ (rw length-map (omega (arith, c.map.ensures.items.long))) (λ k d h. let m = c.map.ensures.items.at k (signer_of d) d (omega (arith, c.map.ensures.items.long)) in rw (get_or-map signer_number c.args.signers k (signer_of d)) (search (rules, m)))
