-- `gather_nonces`: by the verdict.
-- Assumes nothing.
use borrow.Author.Rules.{rules}
use mathlib.Core.Path.{sym, ◌∙◌}
use Rattle.nonce_gather.proofs.Recording.{ready}
use Rattle.nonce_gather.proofs.Answering.{wrong-did, full_did, nothing_did, record-did}
use native.Mathlib.Omega.{arith}
use Rattle.std.proofs.lemmas.Grind.{common_steps}
use Rattle.nonce_gather.proofs.gather.gather_nonces.Goals as goal

pub decide-requires : goal.decide-requires
decide-requires c = ready c.requires

pub put_on_record-requires : goal.put_on_record-requires
put_on_record-requires c =
    (c.requires, sym c.decide.ensures ∙ c.in-Record.is)

pub returns-in-Wrong : goal.returns-in-Wrong
returns-in-Wrong c =
    wrong-did _ _ _ _ _ _ _ _ _ _ c.decide.ensures _ _ _ c.in-Wrong.is
    c.mismatched.ensures

pub returns-in-Full : goal.returns-in-Full
returns-in-Full c =
    full_did _ _ _ _ _ _ _ _ _ _ c.decide.ensures c.in-Full.is
    c.refused.ensures

pub returns-in-Nothing : goal.returns-in-Nothing
returns-in-Nothing c =
    nothing_did _ _ _ _ _ _ _ _ _ _ c.decide.ensures c.in-Nothing.is
    c.quiet.ensures

pub returns-in-Record : goal.returns-in-Record
returns-in-Record c =
    record-did _ _ _ _ _ _ _ _ _ _ c.decide.ensures _ _ _ _ c.in-Record.is
    c.put_on_record.ensures
