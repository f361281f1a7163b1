-- `on_record`: the keys counted, then 10, then the shares asked for.
-- Assumes nothing.
use borrow.Author.Rules.{rules}
use borrow.Author.Tests.{not-true, not-false}
use native.Mathlib.Omega.{arith}
use Rattle.state.proofs.Within.{within, config_few, entries_within, records_few}
use Rattle.state.proofs.Shape.{shape}
use Rattle.nonce_gather.proofs.Recording.{row_known}
use Rattle.nonce_gather.proofs.Answering.{too_few_did, no-key-did, asked-did}
use mathlib.Core.Path.{sym, ◌∙◌}
use Rattle.std.proofs.lemmas.Grind.{common_steps}
use Rattle.nonce_gather.proofs.gather.on_record.Goals as goal

pub offset_bounds-s-r : goal.offset_bounds-s-r
offset_bounds-s-r c =
    omega (arith, c.place-r.ensures, c.requires.known, records_few _ (within _ c.requires.within))

pub bounds-s-r : goal.bounds-s-r
bounds-s-r c =
    omega (arith, c.place-r.ensures, c.requires.known, records_few _ (within _ c.requires.within))

pub received_keys-received-requires : goal.received_keys-received-requires
received_keys-received-requires c =
    (config_few _ (within _ c.requires.within), entries_within _ (within _ c.requires.within))

pub returns-then-received-config : goal.returns-then-received-config
returns-then-received-config c =
    too_few_did _ _ _ _ _ _ _ c.place-r.ensures _ (c.received_keys-received.ensures _ _)
    c.if-received-config.true c.quiet.ensures

pub returns-then-not-s : goal.returns-then-not-s
returns-then-not-s c =
    no-key-did _ _ _ _ _ _ _ c.place-r.ensures _ (c.received_keys-received.ensures _ _)
    c.if-received-config.false _ c.if-not-s.true c.replaced.ensures
    c.refused.ensures

pub request_sig_shares-requires : goal.request_sig_shares-requires
request_sig_shares-requires c =
    row_known _ (shape _ _ c.well_formed.0) c.place-r.ensures c.requires

pub returns : goal.returns
returns c =
    asked-did _ _ _ _ _ _ _ c.place-r.ensures _ (c.received_keys-received.ensures _ _)
    c.if-received-config.false _ c.if-not-s.false c.request_sig_shares.ensures
