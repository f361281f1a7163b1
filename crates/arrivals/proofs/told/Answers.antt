-- `told`: the result, written.
-- Assumes nothing.
use mathlib.Core.List.{[]}
use Rattle.state.proofs.Turns.{sent_did, written_length, written_bytes, never_refused}
use Rattle.arrivals.specs.Query.{told_turn}
use Rattle.arrivals.proofs.Answering.{arrivals-written}
use Rattle.arrivals.proofs.told.Goals as goal

pub returns-in-Ok : goal.returns-in-Ok
unfolding told_turn
returns-in-Ok c =
    let w = arrivals-written _ c.requires.1 c.current_arrivals.ensures c.write_arrivals-written.ensures in
    sent_did [] _ c.sending.ensures (written_length w c.in-Ok.is) (written_bytes w)

pub returns-in-Err : goal.returns-in-Err
returns-in-Err c =
    let w = arrivals-written _ c.requires.1 c.current_arrivals.ensures c.write_arrivals-written.ensures in
    absurd (never_refused w c.in-Err.is)
