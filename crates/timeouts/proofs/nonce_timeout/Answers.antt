-- `nonce_timeout`: 12, or the result.
-- Assumes nothing.
use native.Mathlib.Omega.{arith}
use mathlib.Core.Path.{◌≡◌}
use Prim.Native.Nat.{ℕ}
use Rattle.timeouts.proofs.Asked.{no_record_did, bytes_written, timeout-did}
use Rattle.timeouts.proofs.nonce_timeout.Goals as goal

pub returns-then-s-r : goal.returns-then-s-r
returns-then-s-r c =
    let a = c.args in
    no_record_did a.s a.store.now _ c.current_place-r.ensures a.out.now
    c.if-s-r.true c.refused.ensures

pub returns-in-Ok : goal.returns-in-Ok
returns-in-Ok c =
    let a = c.args in
    let place = c.current_place-r in
    let w = c.write_nonce_timeout-written in
    let wrote = bytes_written a.s a.store.now place.result place.ensures w.ensures in
    let told = c.in-Ok.is in
    timeout-did a.s a.store.now place.result place.ensures (omega (arith, c.if-s-r.false))
    c.sending.ensures (cc) w.ensures

pub returns-in-Err : goal.returns-in-Err
returns-in-Err c =
    let a = c.args in
    let place = c.current_place-r in
    let w = c.write_nonce_timeout-written in
    let wrote = bytes_written a.s a.store.now place.result place.ensures w.ensures in
    let told = c.in-Err.is in
    let z : ◌≡◌ {A = ℕ} 0 1 = cc in
    let f : ⊥ = omega arith in
    absurd f
