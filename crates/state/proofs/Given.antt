-- The lengths of the arrays, from what a struct's value is known to be.
-- Assumes nothing.
use Prim.Native.Nat.{ℕ, zero, suc}
use native.Mathlib.Omega.{arith}
use mathlib.Core.List.{[], ◌∷◌}
use denote.Shadow.{shadow}
use denote.Array.{each}
use denote.Builtin.{u8}
use Rattle.wire.specs.Bytes.{Bytes, All}
use mathlib.Core.Path.{◌≡◌}
use mathlib.Core.List.{List}
use lib.ListN.{length}
use mir.Val.{Val}
use denote.Laws.{Is}
use Rattle.validity.specs.declared.keys.KeyIds.{KeyIds}
use Rattle.validity.specs.contracts.keys.KeyIds as KeyIds-row
use Rattle.state.specs.declared.fields.SignerEntry.{SignerEntry}
use Rattle.state.specs.declared.fields.Config.{Config}
use Rattle.state.specs.declared.fields.SignRoundInfo.{SignRoundInfo}
use Rattle.state.specs.declared.fields.Records.{Records}
use Rattle.state.specs.declared.fields.ShareSlot.{ShareSlot}
use Rattle.state.specs.declared.fields.Shares.{Shares}
use Rattle.state.specs.declared.fields.Message.{Message}
use Rattle.state.specs.declared.fields.Position.{Position}
use Rattle.state.specs.declared.fields.Coordinator.{Coordinator}
use Rattle.state.specs.contracts.fields.Coordinator as Coordinator-row
use Rattle.state.specs.contracts.fields.SignerEntry as SignerEntry-row
use Rattle.state.specs.contracts.fields.Config as Config-row
use Rattle.state.specs.contracts.fields.SignRoundInfo as SignRoundInfo-row
use Rattle.state.specs.contracts.fields.Records as Records-row
use Rattle.state.specs.contracts.fields.ShareSlot as ShareSlot-row
use Rattle.state.specs.contracts.fields.Shares as Shares-row
use Rattle.state.specs.contracts.fields.Message as Message-row
use Rattle.state.specs.contracts.fields.Position as Position-row

pub list_16 : (k : KeyIds) (vs : List Val) → Is KeyIds-row.the_row k vs → length k.ids ≡ 16
list_16 k vs g = g.1.1.0.1.0.1

pub entry_16 : (e : SignerEntry) (vs : List Val) → Is SignerEntry-row.the_row e vs → length e.keys.ids ≡ 16
entry_16 e vs g = list_16 e.keys _ g.1.1.1.1.0

pub signers_10 : (g : Config) (vs : List Val) → Is Config-row.the_row g vs → length g.signers ≡ 10
signers_10 x vs g = g.1.1.1.1.1.1.1.1.0.1.0.1

pub slots_10 : (r : SignRoundInfo) (vs : List Val) → Is SignRoundInfo-row.the_row r vs → length r.slots ≡ 10
slots_10 x vs g = g.1.1.1.0.1.0.1

pub rows_4 : (r : Records) (vs : List Val) → Is Records-row.the_row r vs → length r.rows ≡ 4
rows_4 x vs g = g.1.1.0.1.0.1

pub counts_16 : (s : ShareSlot) (vs : List Val) → Is ShareSlot-row.the_row s vs → length s.key_counts ≡ 16
counts_16 x vs g = g.1.1.1.1.0.1.0.1

pub shares_10 : (s : Shares) (vs : List Val) → Is Shares-row.the_row s vs → length s.slots ≡ 10
shares_10 x vs g = g.1.1.0.1.0.1

pub each-byte : (ns : List ℕ) (us : List Val) → shadow (each u8.Denot u8.own_val ns us) → Bytes ns
each-byte [] us g i = omega arith
each-byte (n ∷ ns) [] g i = absurd g
each-byte (n ∷ ns) (u ∷ us) g zero = g.0.1
each-byte (n ∷ ns) (u ∷ us) g (suc i) = each-byte ns us g.1 i

pub counts-bytes : (s : ShareSlot) (vs : List Val) → Is ShareSlot-row.the_row s vs → Bytes s.key_counts
counts-bytes x vs g = each-byte x.key_counts _ g.1.1.1.1.0.1.1

each_10 :
    (qs : List SignRoundInfo) (us : List Val) → shadow (each (SignRoundInfo-row.the_row).Denot (SignRoundInfo-row.the_row).own_val qs us)
    → All (λ (row : SignRoundInfo). length row.slots ≡ 10) qs
each_10 [] us g = tt
each_10 (q ∷ qs) [] g = absurd g
each_10 (q ∷ qs) (u ∷ us) g = (slots_10 q (u ∷ []) g.0, each_10 qs us g.1)

pub records-slots : (r : Records) (vs : List Val) → Is Records-row.the_row r vs → All (λ (row : SignRoundInfo). length row.slots ≡ 10) r.rows
records-slots r vs g = each_10 r.rows _ g.1.1.0.1.1

pub bytes_256 : (m : Message) (vs : List Val) → Is Message-row.the_row m vs → length m.bytes ≡ 256
bytes_256 x vs g = g.1.1.0.1.0.1

pub root_32 : (p : Position) (vs : List Val) → Is Position-row.the_row p vs → length p.root ≡ 32
root_32 x vs g = g.1.1.1.0.1.0.1

pub coordinator-bytes : (s : Coordinator) (vs : List Val) → Is Coordinator-row.the_row s vs → length s.message.bytes ≡ 256
coordinator-bytes s vs g = bytes_256 s.message _ g.1.1.1.1.1.1.0

pub coordinator-root : (s : Coordinator) (vs : List Val) → Is Coordinator-row.the_row s vs → length s.position.root ≡ 32
coordinator-root s vs g = root_32 s.position _ g.1.1.1.1.1.0
