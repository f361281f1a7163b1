-- A kind 4 packet that 8 and 9 let pass has shares that can be recorded; once they are, what stands for struct and store is the step's.
-- Assumes nothing.
use Prim.Native.Nat.{ℕ, ◌≤◌}
use mathlib.Core.Path.{◌≡◌, refl}
use mathlib.Core.Bool.{true, false, ◌&&◌}
use mathlib.Core.List.{List, map}
use Rattle.std.specs.Prelude.{Some}
use lib.Dec.{leb}
use lib.ListN.{length, get_or, length-map}
use borrow.Author.Tests.{leb-true}
use Rattle.wire.proofs.Lists.{and_left, and_right}
use Rattle.layout.specs.Limits.{list_limit, store_length}
use Rattle.layout.specs.LaidOut.{header_in, parts_from, framed, whole_lists, is_laid_out}
use Rattle.layout.specs.Decode.{share_in, share_response_in, message_in, key_count, within}
use Rattle.step_definition.specs.Effects.{keeping}
use Rattle.state.specs.declared.fields.Coordinator.{Coordinator}
use Rattle.state.specs.Setters.{set_shares}
use Rattle.state.specs.Counts.{is_within_limits}
use Rattle.state.specs.View.{no_shares, coordinator_of}
use Rattle.state.proofs.Shape.{Shaped}
use Rattle.records.specs.Admits.{slot_of}
use Rattle.shares.specs.Shares.{Shareable, kept_store, kept_shares}
use Rattle.shares.proofs.Recorded.{shares_recorded}

pub packet-good : (p : List ℕ) → is_laid_out p ≡ true → (header_in p).kind ≡ 4 → within (message_in p) ≡ true → Shareable (parts_from p 32 (header_in p).pairs)
unfolding is_laid_out whole_lists message_in within share_response_in
packet-good p l k w =
    let ps = parts_from p 32 (header_in p).pairs in
    let lists : whole_lists p ≡ true = and_right (framed p) _ l in
    let both : leb (length (map share_in ps)) list_limit && leb (key_count (map share_in ps)) list_limit ≡ true = rw k at w in
    record {
      whole = rw k at lists;
      few = rw length-map at (leb-true (length (map share_in ps)) list_limit (and_left (leb (length (map share_in ps)) list_limit) (leb (key_count (map share_in ps)) list_limit) both));
      keys = leb-true (key_count (map share_in ps)) list_limit (and_right (leb (length (map share_in ps)) list_limit) (leb (key_count (map share_in ps)) list_limit) both);
    }

pub packet-recorded :
    (s : Coordinator) (store p : List ℕ) (i : ℕ) → Shaped s → is_within_limits s ≡ true → store_length ≤ length store
    → is_laid_out p ≡ true → (header_in p).kind ≡ 4 → within (message_in p) ≡ true
    → slot_of (share_response_in p).signer_id s.config ≡ Some i → (get_or s.shares.slots i no_shares).held ≡ false
    → let ps = parts_from p 32 (header_in p).pairs in
    coordinator_of (set_shares (kept_shares i ps s.shares) s) (kept_store i ps store) ≡ keeping (share_response_in p) (coordinator_of s store)
unfolding share_response_in
packet-recorded s store p i shaped w big l k v found free =
    shares_recorded s store shaped w big (share_response_in p).signer_id i found free (parts_from p 32 (header_in p).pairs) (packet-good p l k v) (share_response_in p) refl refl
