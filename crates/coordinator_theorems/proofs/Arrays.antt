-- The lengths of a struct's arrays, where one of them is replaced.
-- Assumes nothing.
use Prim.Native.Nat.{ℕ, zero, suc}
use mathlib.Core.Path.{◌≡◌, ◌∙◌}
use mathlib.Core.List.{List, [], ◌∷◌}
use lib.ListN.{length, set, get_or, replicate, length-set, length-replicate}
use Rattle.wire.specs.Bytes.{All}
use Rattle.layout.specs.Limits.{message_limit, signer_limit, record_limit}
use Rattle.state.specs.declared.fields.SignerEntry.{SignerEntry}
use Rattle.state.specs.declared.fields.SignRoundInfo.{SignRoundInfo}
use Rattle.state.specs.declared.fields.ShareSlot.{ShareSlot}
use Rattle.state.specs.declared.fields.Coordinator.{Coordinator}
use Rattle.state.specs.View.{no_row}
use Rattle.state.specs.Replaced.{empty_shares}
use Rattle.coordinator_theorems.specs.Host.{Formed}

-- a row with a slot for each signer; the rows, of their type's number
abbrev pub Ten : SignRoundInfo → Type 0
Ten row = length row.slots ≡ signer_limit

abbrev pub Rows : List SignRoundInfo → Type 0
Rows rows = (length rows ≡ record_limit) × All Ten rows

-- the five arrays alone: a struct that differs in other fields has the same
pub record Arrays (entries : List SignerEntry) (records : List SignRoundInfo) (held : List ShareSlot) (message at : List ℕ) : Type 0 where
  pub signers : length entries ≡ signer_limit
  pub rows : Rows records
  pub shares : length held ≡ signer_limit
  pub bytes : length message ≡ message_limit
  pub root : length at ≡ 32

abbrev pub ArraysOf : Coordinator → Type 0
ArraysOf s = Arrays s.config.signers s.records.rows s.shares.slots s.message.bytes s.position.root

pub arrays_of : {s : Coordinator} → Formed s → ArraysOf s
arrays_of f = record { signers = f.signers; rows = (f.rows, f.slots); shares = f.shares; bytes = f.bytes; root = f.root }

pub formed_of : {s : Coordinator} → ArraysOf s → Formed s
formed_of a = record { signers = a.signers; rows = a.rows.0; slots = a.rows.1; shares = a.shares; bytes = a.bytes; root = a.root }

-- one of them replaced
module _ {es : List SignerEntry} {rs : List SignRoundInfo} {ss : List ShareSlot} {m at : List ℕ} (a : Arrays es rs ss m at) where
  pub with_rows : {rs' : List SignRoundInfo} → Rows rs' → Arrays es rs' ss m at
  with_rows h = record { signers = a.signers; rows = h; shares = a.shares; bytes = a.bytes; root = a.root }

  pub the_with_shares : {ss' : List ShareSlot} → length ss' ≡ signer_limit → Arrays es rs ss' m at
  the_with_shares h = record { signers = a.signers; rows = a.rows; shares = h; bytes = a.bytes; root = a.root }

  pub with_bytes : {m' : List ℕ} → length m' ≡ message_limit → Arrays es rs ss m' at
  with_bytes h = record { signers = a.signers; rows = a.rows; shares = a.shares; bytes = h; root = a.root }

  pub with_root : {at' : List ℕ} → length at' ≡ 32 → Arrays es rs ss m at'
  with_root h = record { signers = a.signers; rows = a.rows; shares = a.shares; bytes = a.bytes; root = h }

pub none_held_law : length (replicate signer_limit empty_shares) ≡ signer_limit
none_held_law = length-replicate signer_limit empty_shares

pub all_replicate : {A : Type 0} (P : A → Type 0) (n : ℕ) (x : A) → P x → All P (replicate n x)
all_replicate P zero x p = tt
all_replicate P (suc n) x p = (p, all_replicate P n x p)

-- one element changed; a place past the end changes nothing
all_change : {A : Type 0} (P : A → Type 0) (xs : List A) (i : ℕ) (d x : A) → (P (get_or xs i d) → P x) → All P xs → All P (set xs i x)
all_change P [] i d x f a = tt
all_change P (y ∷ ys) zero d x f a = (f a.0, a.1)
all_change P (y ∷ ys) (suc i) d x f a = (a.0, all_change P ys i d x f a.1)

pub set-row :
    (rows : List SignRoundInfo) (r : ℕ) (row : SignRoundInfo) → (Ten (get_or rows r no_row) → Ten row) → Rows rows → Rows (set rows r row)
set-row rows r row f h = (length-set rows r row ∙ h.0, all_change Ten rows r no_row row f h.1)
