-- The mark by way of the comparisons, 02, d): "so does the mark, which also looks for a key that two responders' lists share and stays as
-- c) says"; that it does is a law (proofs/Repeats.antt).
use Rattle.std.specs.Prelude.{ℕ, Bool, true, ◌&&◌, List, [], ◌∷◌, eqb}
use Rattle.wire.specs.Bytes.{every}
use Rattle.layout.specs.Messages.{NonceResponse}
use Rattle.validity.specs.Keys.{disjoint, comparison}

-- whatever set each responder's list is compared with, no entry repeats an earlier one
abbrev pub no_repeats : (NonceResponse → List ℕ) → List NonceResponse → Bool
no_repeats set qs = every (λ (q : NonceResponse). eqb (comparison q.key_ids (set q)).repeats 0) qs

-- no two responders' lists share a key
unfoldable pub none_shared : List NonceResponse → Bool
none_shared [] = true
none_shared (q ∷ qs) = every (λ (t : NonceResponse). disjoint q.key_ids t.key_ids) qs && none_shared qs
