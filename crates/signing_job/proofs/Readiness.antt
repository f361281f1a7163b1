-- What 4 and 7 find makes a struct ready for its job.
-- Assumes nothing.
use Prim.Native.Nat.{ℕ, zero, suc, ◌<◌, ◌≤◌}
use mathlib.Core.Path.{◌≡◌, refl}
use mathlib.Core.Bool.{true}
use lib.ListN.{get_or}
use native.Mathlib.Omega.{arith}
use Rattle.wire.specs.Bytes.{every}
use Rattle.wire.proofs.Lists.{all_imp}
use Rattle.layout.specs.Limits.{message_limit, signer_limit, store_length, answer_length}
use Rattle.state.specs.declared.fields.Coordinator.{Coordinator}
use Rattle.state.specs.Counts.{row_within_limits, is_within_limits}
use Rattle.state.specs.View.{no_row}
use Rattle.state.proofs.Arrays.{every_get}
use Rattle.state.proofs.Within.{within, config_few, records_few, rows_within}
use Rattle.state.specs.declared.fields.SignerSlot.{SignerSlot}
use Rattle.state.specs.View.{slots_of}
use Rattle.state.proofs.SignerSlots.{slots-live}
use Rattle.state.proofs.Within.{slot-few, row-slot}
use Rattle.signers.specs.declared.order.Order.{Order}
use Rattle.signers.specs.Order.{ordered}
use Rattle.signing_job.specs.SigningJob.{JobReady}
use Rattle.signing_job.specs.SentKeys.{Listed}

no_row_law : (n : ℕ) → row_within_limits n no_row ≡ true
unfolding row_within_limits
no_row_law zero = refl
no_row_law (suc n) = refl

pub ready : (s : Coordinator) (r store message room : ℕ) → is_within_limits s ≡ true → r < s.records.count → store_length ≤ store → message ≤ message_limit
    → answer_length ≤ room → JobReady s r store message room
ready s r store message room w low stored short wide =
    let in_limits = within s w in
    let few = records_few s in_limits in
    let n = s.config.count in
    record {
      signers = config_few s in_limits;
      row = omega arith;
      within = every_get (row_within_limits n) s.records.count s.records.rows r no_row low (no_row_law n) (rows_within s in_limits);
      shares = in_limits.shares;
      stored = stored;
      short = short;
      wide = wide;
    }

-- and so the signers' lists can be read
pub lists-ready :
    (s : Coordinator) (r store message room : ℕ) → JobReady s r store message room → (o : Order) → ordered o ≡ slots_of s.config
    → o.count ≤ signer_limit → Listed o store r (get_or s.records.rows r no_row)
lists-ready s r store message room ok o walked few =
    let row = get_or s.records.rows r no_row in
    let n = s.config.count in
    let es = slots_of s.config in
    let live = slots-live s.config in
    record {
      few = few;
      row = ok.row;
      stored = ok.stored;
      live = rw walked (all_imp es (λ (e : SignerSlot) (l : e.slot < n). omega (arith, ok.signers)) live);
      lists = rw walked (all_imp es (λ (e : SignerSlot) (l : e.slot < n). λ h. (slot-few _ (row-slot n e.slot row ok.within l) h).0) live);
    }
