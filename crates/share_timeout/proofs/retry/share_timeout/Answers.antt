-- `share_timeout`: 12, or the waiters excluded; then too few keys, or the nonces asked for again.
-- Assumes nothing.
use borrow.Author.Tests.{leb-true}
use native.Mathlib.Omega.{arith}
use Rattle.state.proofs.Within.{within, config_few, records_few}
use Rattle.share_timeout.specs.Exclusion.{excluded_in}
use Rattle.share_timeout.proofs.Answering.{excluded_within, no_record_did, insufficient-did, retry-did}
use Rattle.share_timeout.proofs.retry.share_timeout.Goals as goal

pub returns-then-s-r : goal.returns-then-s-r
returns-then-s-r c =
    let a = c.args in
    no_record_did a.clock _ a.s a.store.now _ c.current_place-r.ensures
    c.if-s-r.true c.refused.ensures

pub offset_bounds-s-r : goal.offset_bounds-s-r
offset_bounds-s-r c = omega (arith, c.if-s-r.false, records_few _ (within _ c.requires.within))

pub bounds-s-r : goal.bounds-s-r
bounds-s-r c = omega (arith, c.if-s-r.false, records_few _ (within _ c.requires.within))

pub is_too_few-requires : goal.is_too_few-requires
is_too_few-requires c =
    rw c.exclude-t.ensures (excluded_within _ c.args.s c.requires.within)

pub insufficient-requires : goal.insufficient-requires
unfolding excluded_in
insufficient-requires c =
    (rw c.exclude-t.ensures (config_few _ (within _ c.requires.within)), c.requires.wide)

pub returns-then-is_too_few : goal.returns-then-is_too_few
returns-then-is_too_few c =
    let a = c.args in
    insufficient-did a.clock _ a.s a.store.now _ c.current_place-r.ensures
    (omega (arith, c.if-s-r.false)) _ c.waiting-waits.ensures _ c.exclude-t.ensures _
    c.is_too_few.ensures c.if-is_too_few.true _ (c.insufficient.ensures _ _)

pub request_nonces-requires : goal.request_nonces-requires
unfolding excluded_in
request_nonces-requires c =
    (rw c.exclude-t.ensures (leb-true _ _ (within _ c.requires.within).message), c.requires.wide)

pub returns : goal.returns
returns c =
    let a = c.args in
    retry-did a.clock _ a.s a.store.now _ c.current_place-r.ensures
    (omega (arith, c.if-s-r.false)) _ c.waiting-waits.ensures _ c.exclude-t.ensures _
    c.is_too_few.ensures c.if-is_too_few.false _ (c.request_nonces.ensures _)
