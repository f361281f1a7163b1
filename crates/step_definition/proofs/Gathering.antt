-- The coordinator that gathers nonces, by what its calls read: all but the shares and the share clock of an earlier round.
-- Assumes nothing.
use Prim.Native.Nat.{ℕ}
use mathlib.Core.Path.{◌≡◌}
use mathlib.Core.Bool.{false}
use mathlib.Core.List.{List, []}
use Rattle.std.specs.Prelude.{Option, Some}
use Rattle.layout.specs.declared.Ids.{Ids}
use Rattle.layout.specs.declared.SignatureType.{SignatureType}
use Rattle.layout.specs.Messages.{NonceRequest}
use Rattle.state_table.specs.declared.State.TheVariants.{NonceGather}
use Rattle.state_table.specs.States.{position}
use Rattle.step_definition.specs.Coordinator.{Standing, Coordinator, SignRoundInfo, SignerShares}
use Rattle.step_definition.proofs.Leaves.{Fresh}

pub record GatheringCoordinator : Type 0 where
  pub standing : Standing
  pub ids : Ids
  pub signature_type : SignatureType
  pub root : List ℕ
  pub message : List ℕ
  pub records : List SignRoundInfo
  pub nonce_start : Option ℕ

-- with the shares and the share clock that stayed
abbrev pub gathering : GatheringCoordinator → List SignerShares → Option ℕ → Coordinator
gathering w ss start =
    record {
      standing = w.standing;
      ids = w.ids;
      position = position (NonceGather w.signature_type) w.root;
      round =
          record {
            message = w.message;
            message_nonces = w.records;
            signature_shares = ss;
            clocks = record { nonce_start = w.nonce_start; sign_start = start };
          };
      job = false;
    }

-- the one that the nonce request r opens a round with
abbrev pub freshly : ℕ → NonceRequest → Standing → GatheringCoordinator
freshly now r s =
    record {
      standing = s;
      ids = r.ids;
      signature_type = r.signature_type;
      root = r.root;
      message = r.message;
      records = [];
      nonce_start = Some now;
    }

-- what stays of the coordinator before
abbrev pub from_before : GatheringCoordinator → Coordinator → Coordinator
from_before w c = gathering w c.round.signature_shares c.round.clocks.sign_start

pub freshly_gathers : {now : ℕ} {r : NonceRequest} {c : Coordinator} → Fresh now r c → c ≡ from_before (freshly now r c.standing) c
freshly_gathers {now} {r} {c} f =
    λ i.
    record {
      standing = c.standing;
      ids = f.ids i;
      position = f.position i;
      round =
          record {
            message = f.message i;
            message_nonces = f.records i;
            signature_shares = c.round.signature_shares;
            clocks = record { nonce_start = f.nonce_start i; sign_start = c.round.clocks.sign_start };
          };
      job = f.job i;
    }
