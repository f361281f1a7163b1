-- 02, e): recording a response, and taking a waiter off, leave one reading for each responder.
-- Assumes nothing.
use Prim.Native.Nat.{ℕ}
use mathlib.Core.Path.{◌≡◌, refl, sym, ap, ◌∙◌}
use mathlib.Core.List.{List, map}
use Rattle.wire.specs.Bytes.{All}
use Rattle.layout.specs.Messages.{NonceResponse}
use Rattle.layout.specs.Encode.{arrival_signer}
use Rattle.step_definition.specs.Ids.{insert}
use Rattle.step_definition.specs.Coordinator.{SignRoundInfo, responder_id, arriving, add_response, remove_waiter}
use Rattle.step_definition.specs.Arrivals.{OneReadingEach}
use Rattle.step_definition.proofs.Ascending.{insert_ascends, map-insert_by}
use Rattle.step_definition.proofs.Lists.{all_change}

pub readings_added :
    (now : ℕ) (q : NonceResponse) (rs : List SignRoundInfo) → All OneReadingEach rs → All OneReadingEach (add_response now q rs)
readings_added now q rs h =
    all_change OneReadingEach _ _ _ rs
    (λ r o.
    let signers : map arrival_signer r.arrivals ≡ map responder_id r.public_nonces = o.responders in
    record {
      responders = map-insert_by arrival_signer (arriving now q) r.arrivals ∙ ap (insert q.signer_id) signers ∙ sym (map-insert_by responder_id q r.public_nonces);
      once = rw map-insert_by (insert_ascends q.signer_id (map arrival_signer r.arrivals) o.once);
    })
    (record { responders = refl; once = (tt, tt) }, tt) h

pub readings_kept : (m : List ℕ) (id : ℕ) (rs : List SignRoundInfo) → All OneReadingEach rs → All OneReadingEach (remove_waiter m id rs)
readings_kept m id rs h = all_change OneReadingEach _ _ _ rs (λ r o. record { responders = o.responders; once = o.once }) tt h
