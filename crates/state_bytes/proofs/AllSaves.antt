-- Every value of the struct's type can be saved: its numbers fit their bytes, its arrays have their lengths.
-- Assumes nothing.
use Rattle.state.specs.Clock.{Reading}
use Rattle.std.specs.Prelude.{None, Some}
use Prim.Native.Nat.{ℕ}
use mathlib.Core.Path.{◌≡◌}
use mathlib.Core.Bool.{Bool}
use mathlib.Core.List.{List, [], ◌∷◌, map}
use native.Mathlib.Omega.{arith}
use lib.ListN.{length, length-map}
use base.Fml.{Fml}
use mir.Val.{Val}
use denote.Array.{each as each_of}
use denote.Laws.{Is}
use denote.Shadow.{shadow}
use denote.Builtin.{u64}
use denote.Struct.Declared.{Declared, row}
use Rattle.std.specs.contracts.option.Option as option
use Rattle.wire.specs.Bytes.{All}
use Rattle.layout.specs.Limits.{message_limit, list_limit, signer_limit, record_limit}
use Rattle.layout.specs.declared.Ids.{Ids}
use Rattle.layout.specs.declared.KeyId.{KeyId}
use Rattle.layout.specs.contracts.Ids as Ids-row
use Rattle.layout.specs.contracts.KeyId as KeyId-row
use Rattle.state.specs.declared.fields.Timeouts.{Timeouts}
use Rattle.state.specs.declared.fields.SignerEntry.{SignerEntry}
use Rattle.state.specs.declared.fields.Config.{Config}
use Rattle.state.specs.declared.fields.ResponseSlot.{ResponseSlot}
use Rattle.state.specs.declared.fields.SignRoundInfo.{SignRoundInfo}
use Rattle.state.specs.declared.fields.Records.{Records}
use Rattle.state.specs.declared.fields.ShareSlot.{ShareSlot}
use Rattle.state.specs.declared.fields.Marks.{Marks}
use Rattle.state.specs.declared.fields.Position.{Position}
use Rattle.state.specs.declared.fields.Message.{Message}
use Rattle.state.specs.declared.fields.Clocks.{Clocks}
use Rattle.state.specs.declared.fields.Coordinator.{Coordinator}
use Rattle.state.specs.contracts.fields.Timeouts as Timeouts-row
use Rattle.state.specs.contracts.fields.SignerEntry as SignerEntry-row
use Rattle.state.specs.contracts.fields.Config as Config-row
use Rattle.state.specs.contracts.fields.ResponseSlot as ResponseSlot-row
use Rattle.state.specs.contracts.fields.SignRoundInfo as SignRoundInfo-row
use Rattle.state.specs.contracts.fields.Records as Records-row
use Rattle.state.specs.contracts.fields.ShareSlot as ShareSlot-row
use Rattle.state.specs.contracts.fields.Marks as Marks-row
use Rattle.state.specs.contracts.fields.Message as Message-row
use Rattle.state.specs.contracts.fields.Clocks as Clocks-row
use Rattle.state.specs.contracts.fields.Coordinator as Coordinator-row
use Rattle.state.proofs.Given.{signers_10, slots_10, rows_4, counts_16, shares_10, bytes_256, coordinator-root}
use Rattle.state_table.specs.States.{type_in}
use Rattle.form.specs.Form.{Form, flag, each, pieces}
use Rattle.state_bytes.specs.Saved.{Saves}
use Rattle.state_bytes.specs.Description.{reading_parts, reading_form, timeouts_form, key_form, signer_form, config_form, ids_form, state_parts, state_form}
use Rattle.state_bytes.specs.Description.{position_form, message_form, slot_form, row_form, records_form, share_form, marks_form, clocks_form, keys_form, coordinator_form}
use Rattle.state_bytes.proofs.Described.{byte-state, byte_type}

-- what holds of every value of a struct's type holds of every element of an array of them
each_all :
    (T : Declared) (P : T.D → Type 0) → ((x : T.D) (vs : List Val) → Is (row T) x vs → P x)
    → (xs : List T.D) (us : List Val) → shadow (each_of (row T).Denot (row T).own_val xs us) → All P xs
each_all T P p [] us g = tt
each_all T P p (x ∷ xs) [] g = absurd g
each_all T P p (x ∷ xs) (u ∷ us) g = (p x (u ∷ []) g.0, each_all T P p xs us g.1)

-- how many elements there are, and each of them
pub array_fits :
    (T : Declared) (G : Form T.D) (n : ℕ) → ((x : T.D) (vs : List Val) → Is (row T) x vs → G.Fits x) → (xs : List T.D) (us : List Val)
    → length xs ≡ n → shadow (each_of (row T).Denot (row T).own_val xs us) → (each n G).Fits xs
unfolding pieces
array_fits T G n p xs us e g = (e, each_all T G.Fits p xs us g)

pub flags_fit : (n : ℕ) (bs : List Bool) → length bs ≡ n → (each n flag).Fits bs
unfolding pieces
flags_fit n bs e = (e, all_of bs)
  where
    all_of : (bs : List Bool) → All flag.Fits bs
    all_of [] = tt
    all_of (b ∷ bs) = (tt, all_of bs)

pub ids_fit : (i : Ids) (vs : List Val) → Is Ids-row.the_row i vs → ids_form.Fits i
unfolding ids_form pieces
ids_fit i vs g = (g.1.1.0.1, (g.1.1.1.0.1, (g.1.1.1.1.0.1, tt)))

pub reading-fits : (r : Reading) (vs : List Val) → Is (option.the_row u64) r vs → reading_form.Fits r
unfolding reading_form reading_parts pieces
reading-fits None vs g = (tt, (omega arith, tt))
reading-fits (Some n) vs g = (tt, (g.1.1.1.1.0.1, tt))

pub timeouts_fit : (t : Timeouts) (vs : List Val) → Is Timeouts-row.the_row t vs → timeouts_form.Fits t
unfolding timeouts_form pieces
timeouts_fit t vs g = (
  reading-fits t.dkg_public _ g.1.1.0,
  (
    reading-fits t.dkg_private _ g.1.1.1.0,
    (
      reading-fits t.dkg_end _ g.1.1.1.1.0,
      (reading-fits t.nonce _ g.1.1.1.1.1.0, (reading-fits t.sign _ g.1.1.1.1.1.1.0, tt)),
    ),
  ),
)

pub clocks_fit : (c : Clocks) (vs : List Val) → Is Clocks-row.the_row c vs → clocks_form.Fits c
unfolding clocks_form pieces
clocks_fit c vs g = (reading-fits c.nonce_start _ g.1.1.0, (reading-fits c.sign_start _ g.1.1.1.0, tt))

pub key_fits : (k : KeyId) (vs : List Val) → Is KeyId-row.the_row k vs → key_form.Fits k
unfolding key_form pieces
key_fits k vs g = g.1.1.0.1

pub signer-fits : (e : SignerEntry) (vs : List Val) → Is SignerEntry-row.the_row e vs → signer_form.Fits e
unfolding signer_form pieces
signer-fits e vs g =
    let keys = g.1.1.1.1.0.1.1.0.1.0.1 in (
      g.1.1.0.1.1.0.1,
      (
        tt,
        (
          array_fits KeyId-row.the_type key_form list_limit key_fits e.keys.ids _ keys g.1.1.1.1.0.1.1.0.1.1,
          (g.1.1.1.1.0.1.1.1.0.1, tt),
        ),
      ),
    )

pub config-fits : (c : Config) (vs : List Val) → Is Config-row.the_row c vs → config_form.Fits c
unfolding config_form pieces
config-fits c vs g =
    let from-timeouts = g.1.1.1.1.1.1.1 in
    let signers = array_fits SignerEntry-row.the_type signer_form signer_limit signer-fits c.signers _ (signers_10 c vs g) from-timeouts.1.0.1.1 in (
      g.1.1.0.1,
      (
        g.1.1.1.0.1,
        (
          g.1.1.1.1.0.1,
          (
            g.1.1.1.1.1.0.1,
            (
              g.1.1.1.1.1.1.0.1,
              (timeouts_fit c.timeouts _ from-timeouts.0, (signers, (from-timeouts.1.1.0.1, (tt, tt)))),
            ),
          ),
        ),
      ),
    )

pub slot-fits : (r : ResponseSlot) (vs : List Val) → Is ResponseSlot-row.the_row r vs → slot_form.Fits r
unfolding slot_form pieces
slot-fits r vs g =
    let ids = ids_fit r.ids _ g.1.1.1.1.0 in
    let numbers = g.1.1.1.1.1 in
    (tt, (tt, (ids, (numbers.0.1, (numbers.1.0.1, (numbers.1.1.0.1, tt))))))

pub row_fits : (r : SignRoundInfo) (vs : List Val) → Is SignRoundInfo-row.the_row r vs → row_form.Fits r
unfolding row_form pieces
row_fits r vs g =
    (g.1.1.0.1, (array_fits ResponseSlot-row.the_type slot_form signer_limit slot-fits r.slots _ (slots_10 r _ g) g.1.1.1.0.1.1, tt))

pub records_fit : (r : Records) (vs : List Val) → Is Records-row.the_row r vs → records_form.Fits r
unfolding records_form pieces
records_fit r vs g =
    (array_fits SignRoundInfo-row.the_type row_form record_limit row_fits r.rows _ (rows_4 r vs g) g.1.1.0.1.1, (g.1.1.1.0.1, tt))

pub share-fits : (h : ShareSlot) (vs : List Val) → Is ShareSlot-row.the_row h vs → share_form.Fits h
unfolding share_form pieces
share-fits h vs g = (tt, (g.1.1.1.0.1, (counts_16 h _ g, tt)))

pub marks_fit : (m : Marks) (vs : List Val) → Is Marks-row.the_row m vs → marks_form.Fits m
unfolding marks_form pieces
marks_fit m vs g =
    let ended = g.1.1.0.1.0.1 in
    let malicious = g.1.1.1.0.1.0.1 in
    (flags_fit signer_limit m.ended ended, (flags_fit signer_limit m.malicious malicious, tt))

pub message-fits : (m : Message) (vs : List Val) → Is Message-row.the_row m vs → message_form.Fits m
unfolding message_form pieces
message-fits m vs g = (bytes_256 m vs g, (g.1.1.1.0.1, tt))

pub position-fits : (p : Position) → length p.root ≡ 32 → position_form.Fits p
unfolding position_form state_form state_parts pieces
position-fits p e = ((byte-state p.state, (byte_type (type_in p.state), tt)), (e, tt))

pub all_saves : (s : Coordinator) (vs : List Val) → Is Coordinator-row.the_row s vs → Saves s
unfolding Saves coordinator_form pieces keys_form
all_saves s vs g =
    let from_records = g.1.1.1.1.1.1.1 in
    let slots = from_records.1.0.1.1.0.1.1 in
    let shares = array_fits ShareSlot-row.the_type share_form signer_limit share-fits s.shares.slots _ (shares_10 s.shares _ from_records.1.0) slots in
    let marks = marks_fit s.marks _ from_records.1.1.0 in
    let clocks = clocks_fit s.clocks _ from_records.1.1.1.0 in (
      tt,
      (
        tt,
        (
          tt,
          (
            config-fits s.config _ g.1.1.1.0,
            (
              ids_fit s.ids _ g.1.1.1.1.0,
              (
                position-fits s.position (coordinator-root s vs g),
                (message-fits s.message _ g.1.1.1.1.1.1.0, (records_fit s.records _ from_records.0, (shares, (marks, (clocks, ((tt, (tt, tt)), (tt, (tt, tt)))))))),
              ),
            ),
          ),
        ),
      ),
    )
