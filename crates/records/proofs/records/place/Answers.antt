-- `place`: the search that is left gives the place.
-- Assumes nothing.
use mathlib.Core.Path.{◌≡◌, refl, ap, ◌∙◌}
use mathlib.Core.List.{List}
use native.Mathlib.Omega.{arith}
use lib.ListN.{length}
use Rattle.state.specs.declared.fields.SignRoundInfo.{SignRoundInfo}
use Rattle.state.specs.View.{no_row}
use Rattle.records.specs.Records.{record_from, record_place}
use Rattle.records.proofs.Adding.{place_next, place_end}
use Rattle.records.proofs.records.place.Goals as goal

pub loop-r-init : goal.loop-r-init
loop-r-init c = refl

pub is_of-requires : goal.is_of-requires
is_of-requires c = omega (arith, c.live-rows.ensures.1)

pub returns-then-is_of : goal.returns-then-is_of
unfolding record_place
returns-then-is_of c =
    let a = c.args in
    let v = c.loop-r in
    let q = c.is_of in
    let found = place_next a.message.now a.store.now c.live-rows.result.now v.r no_row q.result c.loop-r-test.true q.ensures v.invariant in
    rw c.if-is_of.true at found ∙ ap (λ (rows : List SignRoundInfo). record_from a.message.now a.store.now 0 rows) c.live-rows.ensures.0

pub loop-r-preserved : goal.loop-r-preserved
loop-r-preserved c =
    let a = c.args in
    let v = c.loop-r in
    let q = c.is_of in
    let on = place_next a.message.now a.store.now c.live-rows.result.now v.r no_row q.result c.loop-r-test.true q.ensures v.invariant in
    rw c.if-is_of.false at on

pub returns : goal.returns
unfolding record_place
returns c =
    let a = c.args in
    let rows = c.live-rows.result.now in
    let all : c.loop-r.r ≡ length rows = omega arith in
    rw all at (place_end a.message.now a.store.now rows c.loop-r.r (omega arith) c.loop-r.invariant)
    ∙ ap (λ (rs : List SignRoundInfo). record_from a.message.now a.store.now 0 rs) c.live-rows.ensures.0
