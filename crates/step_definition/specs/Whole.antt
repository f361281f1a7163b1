-- What the mark beside a job says, place by place in the job's list; that `whole` is yes exactly there is a law (proofs/Whole.antt).
use Rattle.std.specs.Prelude.{ℕ, ◌<◌, ◌≡◌, true, List, length, get_or}
use Rattle.wire.specs.Bytes.{All}
use Rattle.layout.specs.Messages.{NonceResponse, Job}
use Rattle.step_definition.specs.Lists.{is_some}
use Rattle.step_definition.specs.Coordinator.{SignerShares, shares_by}

-- 02, c): "no key id occurs twice": no two places of the list have the same
abbrev pub NoneTwice : List ℕ → Type 0
NoneTwice ks = (i j : ℕ) → i < j → j < length ks → get_or ks i 0 ≡ get_or ks j 0 → ⊥

-- 02, c): "every responder's shares are held and no key id occurs twice in the job's joined list"
pub record Whole (qs : List NonceResponse) (held : List SignerShares) (j : Job) : Type 0 where
  pub shared : All (λ (q : NonceResponse). is_some (shares_by q.signer_id held) ≡ true) qs
  pub once : NoneTwice j.key_ids
