-- `NewKeys::given`: the numbers of the first places.
-- Assumes nothing.
use Prim.Native.Nat.{min}
use mathlib.Core.Path.{◌≡◌, refl, ap, sym, ◌∙◌}
use native.Mathlib.Omega.{arith}
use borrow.Author.Rules.{rules}
use lib.ListN.{length, take, length-map, length-take}
use Rattle.std.proofs.lemmas.List.{take-map, take_min}
use Rattle.validity.specs.Keys.{key_number}
use Rattle.configuration.specs.NewConfig.{numbers_in}
use Rattle.configuration.proofs.new_config.NewKeys.given.Goals as goal

pub returns : goal.returns
unfolding numbers_in
returns c =
    let k = c.args.self.now in
    let all : length k.ids ≡ 17 = search rules in
    let e : take c.min.result k.ids ≡ take k.count k.ids = ap (λ l. take l k.ids) (c.min.ensures ∙ ap (min k.count) (sym all)) ∙ take_min k.count k.ids in
    record {
      keys = rw (e, take-map) (refl, sym (length-map (take k.count k.ids) key_number));
      few = rw length-take (omega (arith, c.min.ensures));
    }
