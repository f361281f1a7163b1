-- The mark beside a job, by 02, c): "whole is yes exactly when every responder's shares are held and no key id occurs twice in the job's
-- joined list". Rounds with shares missing, and with a responder that has no key, stand in Rounds.antt (`not_whole`) and Jobs.antt
-- (`one_of_three`, `empty_shares`).
use Rattle.std.specs.Prelude.{Some, ℕ, Bool, true, false, List, [], ◌∷◌}
use Rattle.layout.specs.declared.SignatureType.TheVariants.{Frost}
use Rattle.step_definition.specs.Configuration.{SignerConfig}
use Rattle.step_definition.specs.Calls.{aggregated}
use Rattle.step_definition.specs.rounds.Rounds.{signer, configuration, three, at, nine, ids, good, respond, answers, share}
use Rattle.step_definition.specs.rounds.Rounds.{shares, shares9, job_of, begun_of}
use Rattle.step_definition.specs.rounds.Rounds.{saying, recorded_of, shares_asked, taken_of, job_given, ◌⇒◌, left9, Round, round}

-- 0 and 1 answer with these lists and share for these keys; the job has this joined list and this mark. "What is recorded and sent is
-- untouched, repeats included": the share request has each list as it was sent, and the aggregator's answer is taken whatever the mark
abbrev ended : List SignerConfig → List ℕ → List ℕ → List ℕ → List ℕ → List ℕ → Bool → Round
ended signers list0 list1 shared0 shared1 joined whole =
    let r0 = respond 0 list0 good in
    let r1 = respond 1 list1 good in
    round (begun_of (configuration 4 3 3 (Some 10) (Some 10) signers true) (0 ∷ 1 ∷ []))
    (answers 0 r0 ⇒ recorded_of 0
    ∷ answers 0 r1 ⇒ shares_asked 1 (shares9 (r0 ∷ r1 ∷ []))
    ∷ shares 0 0 shared0 ⇒ taken_of 0
    ∷ shares 0 1 shared1
    ⇒ job_given 1 whole (job_of (ids 1) nine Frost [] joined (good ∷ good ∷ []) (share 0 shared0 ∷ share 1 shared1 ∷ []))
    ∷ at 0 (aggregated true) ⇒ saying 0
    ∷ [])
    (left9 1)

-- "An aggregator rejected a job marked whole: a signer had listed 3, 2, 3."
abbrev pub listed_twice : Round
listed_twice = ended three (1 ∷ []) (3 ∷ 2 ∷ 3 ∷ []) (1 ∷ []) (2 ∷ 3 ∷ []) (1 ∷ 3 ∷ 2 ∷ 3 ∷ []) false

abbrev pub listed_once : Round
listed_once = ended three (1 ∷ []) (2 ∷ 3 ∷ []) (1 ∷ []) (2 ∷ 3 ∷ []) (1 ∷ 2 ∷ 3 ∷ []) true

-- the key ids of the shares are not the joined list
abbrev pub shared_twice : Round
shared_twice = ended three (1 ∷ []) (2 ∷ 3 ∷ []) (1 ∷ []) (3 ∷ 2 ∷ 3 ∷ []) (1 ∷ 2 ∷ 3 ∷ []) true

-- a key of two signers, each of whom lists it once: question 2 asks only that no set has a key twice
abbrev pub key_of_two : Round
key_of_two =
    ended (signer 0 (1 ∷ 2 ∷ []) ∷ signer 1 (2 ∷ 3 ∷ []) ∷ [])
    (1 ∷ 2 ∷ []) (2 ∷ 3 ∷ []) (1 ∷ 2 ∷ []) (2 ∷ 3 ∷ []) (1 ∷ 2 ∷ 2 ∷ 3 ∷ []) false

-- and of two that are not neighbours in the joined list: of 0 {1}, 1 {2} and 2 {1, 3}
abbrev pub key_of_first_and_last : Round
key_of_first_and_last =
    let r0 = respond 0 (1 ∷ []) good in
    let r1 = respond 1 (2 ∷ []) good in
    let r2 = respond 2 (1 ∷ 3 ∷ []) good in
    round
    (begun_of (configuration 4 3 3 (Some 10) (Some 10) (signer 0 (1 ∷ []) ∷ signer 1 (2 ∷ []) ∷ signer 2 (1 ∷ 3 ∷ []) ∷ []) true)
    (0 ∷ 1 ∷ 2 ∷ []))
    (answers 0 r0 ⇒ recorded_of 0
    ∷ answers 0 r1 ⇒ recorded_of 1
    ∷ answers 0 r2 ⇒ shares_asked 2 (shares9 (r0 ∷ r1 ∷ r2 ∷ []))
    ∷ shares 0 0 (1 ∷ []) ⇒ taken_of 0
    ∷ shares 0 1 (2 ∷ []) ⇒ taken_of 1
    ∷ shares 0 2 (1 ∷ 3 ∷ [])
    ⇒ job_given 2 false
    (job_of (ids 1) nine Frost [] (1 ∷ 2 ∷ 1 ∷ 3 ∷ []) (good ∷ good ∷ good ∷ [])
    (share 0 (1 ∷ []) ∷ share 1 (2 ∷ []) ∷ share 2 (1 ∷ 3 ∷ []) ∷ []))
    ∷ [])
    (left9 1)

unfoldable pub marks : List Round
marks = listed_twice ∷ listed_once ∷ shared_twice ∷ key_of_two ∷ key_of_first_and_last ∷ []
