-- What 8 and 9 say of a packet that is taken, as the functions below ask it.
-- Assumes nothing.
use Prim.Native.Nat.{ℕ, ◌/◌, ◌%◌, ◌≤◌}
use mathlib.Core.Path.{◌≡◌}
use mathlib.Core.Bool.{true, ◌&&◌}
use mathlib.Core.List.{List}
use native.Mathlib.Omega.{arith}
use borrow.Author.Tests.{leb-true, eqb-true}
use lib.Dec.{leb}
use lib.ListN.{length}
use Rattle.wire.proofs.Lists.{and_left, and_right}
use Rattle.layout.specs.Limits.{message_limit, list_limit}
use Rattle.layout.specs.declared.Header.{Header}
use Rattle.layout.specs.LaidOut.{header_in, part_at, framed, whole_entries, whole_response, whole_lists, is_laid_out}
use Rattle.layout.specs.Decode.{ids_in, nonces_in, response_in, request_in, response_within, message_in, within}
use Rattle.layout.proofs.Entries.{length-ids_in, length-nonces_in}
use Rattle.state.specs.declared.fields.Coordinator.{Coordinator}
use Rattle.shares.proofs.PacketGood.{packet-good}
use Rattle.nonce_gather.specs.NonceGather as N
use Rattle.share_gather.specs.ShareGather as S
use Rattle.idle.specs.Idle.{Heard}
use Rattle.messages.specs.Messages.{Incoming}

module _ {s : Coordinator} {store p : List ℕ} {h : Header} {room : ℕ} (i : Incoming s store p h room) where
  kind_is : (k : ℕ) → h.kind ≡ k → (header_in p).kind ≡ k
  kind_is k e = rw i.header at e

  -- a kind 1 packet's message is short
  pub heard : Heard p h room
  unfolding message_in within request_in
  heard =
      record {
        header = i.header;
        short = λ e. let k = kind_is 1 e in leb-true _ _ (rw k at i.short);
        wide = i.wide;
      }

  -- a kind 2 packet has whole and short lists
  pub gathering : h.kind ≡ 2 → N.NoncesGathering s store (part_at p 32) (part_at p 40) (part_at p 48) room
  unfolding is_laid_out whole_lists whole_response whole_entries message_in within response_within response_in
  gathering e =
      let k = kind_is 2 e in
      let m = leb (length (part_at p 32)) message_limit in
      let a = leb (length (ids_in (part_at p 40))) list_limit in
      let n = leb (length (nonces_in (part_at p 48))) list_limit in
      let lists : whole_lists p ≡ true = and_right (framed p) _ i.laid_out in
      let whole : whole_entries 4 (part_at p 40) && whole_entries 66 (part_at p 48) ≡ true = rw k at lists in
      let fours : length (part_at p 40) % 4 ≡ 0 = eqb-true _ _ (and_left (whole_entries 4 (part_at p 40)) (whole_entries 66 (part_at p 48)) whole) in
      let sixes : length (part_at p 48) % 66 ≡ 0 = eqb-true _ _ (and_right (whole_entries 4 (part_at p 40)) (whole_entries 66 (part_at p 48)) whole) in
      let few : m && a && n ≡ true = rw k at i.short in
      let keys : length (part_at p 40) / 4 ≤ list_limit = rw length-ids_in at (leb-true (length (ids_in (part_at p 40))) list_limit (and_right m a (and_left (m && a) n few))) in
      let nonces : length (part_at p 48) / 66 ≤ list_limit = rw length-nonces_in at (leb-true (length (nonces_in (part_at p 48))) list_limit (and_right (m && a) n few)) in
      record {
        within = i.within;
        stored = i.stored;
        short = leb-true _ _ (and_left m a (and_left (m && a) n few));
        whole_keys = omega arith;
        whole_nonces = omega arith;
        few_keys = omega arith;
        few_nonces = omega arith;
        wide = i.wide;
      }

  -- a kind 4 packet has shares that can be recorded
  pub shareable : h.kind ≡ 4 → S.SharesGathering s store p h room
  shareable e =
      record {
        within = i.within;
        stored = i.stored;
        wide = i.wide;
        header = i.header;
        shares = rw i.header (packet-good p i.laid_out (kind_is 4 e) i.short);
      }
