-- Each form of the description is lawful, because its pieces are: a field more or less asks for no line here.
-- Assumes nothing.
use Rattle.state.specs.Clock.{Reading}
use Rattle.std.specs.Prelude.{None, Some}
use Prim.Native.Nat.{ℕ, zero, suc, ◌<◌, ◌^◌}
use mathlib.Core.Path.{◌≡◌, refl, sym, ap}
use mathlib.Core.Bool.{Bool, true, false}
use native.Mathlib.Omega.{arith}
use borrow.Author.Tests.{eq-eqb, eqb-true}
use lib.Dec.{eqb}
use lib.ListN.{length, get_or, length-append}
use Rattle.wire.proofs.Numbers.{length-le}
use Rattle.wire.proofs.Lists.{and_left, and_right, and_both}
use Rattle.layout.specs.declared.Ids.{Ids}
use Rattle.layout.specs.declared.SignatureType.{SignatureType}
use Rattle.layout.specs.declared.SignatureType.TheVariants.{Frost, Schnorr, Taproot, TaprootRoot}
use Rattle.layout.specs.Types.{type_number, type_of}
use Rattle.state_table.specs.declared.State.{State}
use Rattle.state_table.specs.declared.State.TheVariants.{Idle, DkgPublicDistribute, DkgPublicGather}
use Rattle.state_table.specs.declared.State.TheVariants.{DkgPublicSharesDoneDistribute, DkgPublicSharesDoneGather}
use Rattle.state_table.specs.declared.State.TheVariants.{DkgPrivateDistribute, DkgPrivateGather}
use Rattle.state_table.specs.declared.State.TheVariants.{DkgPrivateSharesDoneDistribute, DkgPrivateSharesDoneGather}
use Rattle.state_table.specs.declared.State.TheVariants.{DkgEndDistribute, DkgEndGather}
use Rattle.state_table.specs.declared.State.TheVariants.{NonceRequest, NonceGather, SigShareRequest, SigShareGather}
use Rattle.state_table.specs.States.{state_number, type_in, StateType}
use Rattle.state_table.proofs.Table.{state_below}
use Rattle.state.specs.declared.fields.Timeouts.{Timeouts}
use Rattle.state.specs.declared.fields.Clocks.{Clocks}
use Rattle.form.specs.Form.{Like, pieces, digest}
use Rattle.form.proofs.Lawful.{Lawful, Alike, Faithful, number_lawful, byte_lawful, flag_lawful, bytes_lawful, constant_lawful}
use Rattle.form.proofs.Lawful.{each_lawful, field_kept, end_kept, tuple_lawful, like_lawful, enum_lawful}
use Rattle.state_bytes.specs.Version.{digests}
use Rattle.state_bytes.specs.Saved.{state_length}
use Rattle.state_bytes.specs.Description.{reading_code, reading_parts, state_code, state_parts, saved_type, state_for}
use Rattle.state_bytes.specs.Description.{reading_form, timeouts_form, key_form, signer_form, config_form, ids_form, state_form, position_form, message_form}
use Rattle.state_bytes.specs.Description.{slot_form, row_form, records_form, share_form, marks_form, clocks_form, keys_form, coordinator_form, description}

alike : {S T : Type 0} {l : Like S T} → ((x : S) → l.whole (l.apart x) ≡ x) → ((t : T) → l.apart (l.whole t) ≡ t) → Alike l
alike a b = record { same_struct = a; same_fields = b }

ruleset lawful =
    (number_lawful, byte_lawful, flag_lawful, bytes_lawful, constant_lawful, each_lawful, field_kept, end_kept, tuple_lawful, like_lawful, enum_lawful, alike)

-- a reading is told by its flag and its number
reading-told : (b : Bool) (n : ℕ) → reading_code.told (b, (n, tt)) ≡ true → reading_code.coded (reading_code.value (b, (n, tt))) ≡ (b, (n, tt))
reading-told true n e = refl
reading-told false n e = rw (eqb-true n 0 e)

told-reading : (b : Bool) (n : ℕ) → reading_code.coded (reading_code.value (b, (n, tt))) ≡ (b, (n, tt)) → reading_code.told (b, (n, tt)) ≡ true
told-reading true n e = refl
told-reading false n e = eq-eqb n 0 (sym (ap (λ (t : Bool × (ℕ × Unit {0})). t.1.0) e))

reading-fits : (b : Bool) (n : ℕ) → n < 256 ^ 8 → (reading_code.coded (reading_code.value (b, (n, tt)))).1.0 < 256 ^ 8
reading-fits true n f = f
reading-fits false n f = omega arith

same_reading : (r : Reading) → reading_code.value (reading_code.coded r) ≡ r
same_reading None = refl
same_reading (Some n) = refl

reading_faithful : Faithful reading_code reading_parts
unfolding reading_parts pieces
reading_faithful =
    record {
      same_value = same_reading;
      fits = λ t f. (tt, (reading-fits t.0 t.1.0 f.1.0, tt));
      told_same = λ t e. reading-told t.0 t.1.0 e;
      same_told = λ t e. told-reading t.0 t.1.0 e;
    }

pub reading_lawful : Lawful reading_form
unfolding reading_form reading_parts
reading_lawful = enum_lawful reading_faithful (search lawful depth 8)

type_back : (t : SignatureType) → type_of (type_number t) ≡ t
unfolding type_of
type_back Frost = refl
type_back Schnorr = refl
type_back Taproot = refl
type_back TaprootRoot = refl

state_back : (x : State) → state_for (state_number x) (type_of (saved_type (type_in x))) ≡ x
unfolding state_for
state_back Idle = refl
state_back DkgPublicDistribute = refl
state_back DkgPublicGather = refl
state_back DkgPublicSharesDoneDistribute = refl
state_back DkgPublicSharesDoneGather = refl
state_back DkgPrivateDistribute = refl
state_back DkgPrivateGather = refl
state_back DkgPrivateSharesDoneDistribute = refl
state_back DkgPrivateSharesDoneGather = refl
state_back DkgEndDistribute = refl
state_back DkgEndGather = refl
state_back (NonceRequest t) = ap NonceRequest (type_back t)
state_back (NonceGather t) = ap NonceGather (type_back t)
state_back (SigShareRequest t) = ap SigShareRequest (type_back t)
state_back (SigShareGather t) = ap SigShareGather (type_back t)

-- a state is told by its number and its type's
pub byte-state : (x : State) → state_number x < 256
byte-state x = omega (arith, state_below x)

pub byte_type : (t : StateType) → saved_type t < 256
byte_type None = omega arith
byte_type (Some Frost) = omega arith
byte_type (Some Schnorr) = omega arith
byte_type (Some Taproot) = omega arith
byte_type (Some TaprootRoot) = omega arith

state_faithful : Faithful state_code state_parts
unfolding state_parts pieces
state_faithful =
    record {
      same_value = state_back;
      fits = λ t f. let x = state_code.value t in (byte-state x, (byte_type (type_in x), tt));
      told_same = λ t e.
          let x = state_code.value t in
          let n = eqb-true (state_number x) t.0 (and_left (eqb (state_number x) t.0) _ e) in
          let k = eqb-true (saved_type (type_in x)) t.1.0 (and_right (eqb (state_number x) t.0) _ e) in
          λ i. (n i, (k i, tt));
      same_told = λ t e.
          let x = state_code.value t in
          and_both _ _ (eq-eqb (state_number x) t.0 (ap (λ (u : ℕ × (ℕ × Unit {0})). u.0) e)) (eq-eqb _ t.1.0 (ap (λ (u : ℕ × (ℕ × Unit {0})). u.1.0) e));
    }

pub state_lawful : Lawful state_form
unfolding state_form state_parts
state_lawful = enum_lawful state_faithful (search lawful depth 8)

pub position_lawful : Lawful position_form
unfolding position_form
position_lawful = search (lawful, state_lawful) depth 8

pub timeouts_lawful : Lawful timeouts_form
unfolding timeouts_form
timeouts_lawful = search (lawful, reading_lawful) depth 12

pub key_lawful : Lawful key_form
unfolding key_form
key_lawful = search lawful

pub signer_lawful : Lawful signer_form
unfolding signer_form
signer_lawful = search (lawful, key_lawful) depth 12

pub config_lawful : Lawful config_form
unfolding config_form
config_lawful = search (lawful, timeouts_lawful, signer_lawful) depth 16

pub ids_lawful : Lawful ids_form
unfolding ids_form
ids_lawful = search lawful depth 12

pub message_lawful : Lawful message_form
unfolding message_form
message_lawful = search lawful depth 12

pub slot_lawful : Lawful slot_form
unfolding slot_form
slot_lawful = search (lawful, ids_lawful) depth 12

pub row_lawful : Lawful row_form
unfolding row_form
row_lawful = search (lawful, slot_lawful) depth 12

pub records_lawful : Lawful records_form
unfolding records_form
records_lawful = search (lawful, row_lawful) depth 12

pub share_lawful : Lawful share_form
unfolding share_form
share_lawful = search lawful depth 12

pub marks_lawful : Lawful marks_form
unfolding marks_form
marks_lawful = search lawful depth 12

pub clocks_lawful : Lawful clocks_form
unfolding clocks_form
clocks_lawful = search (lawful, reading_lawful) depth 12

pub keys_lawful : Lawful keys_form
unfolding keys_form
keys_lawful = search lawful depth 12

pub coordinator_lawful : Lawful coordinator_form
unfolding coordinator_form
coordinator_lawful =
    search
    (lawful, config_lawful, ids_lawful, position_lawful, message_lawful, records_lawful, share_lawful, marks_lawful, clocks_lawful, keys_lawful)
    depth 20

pub coordinator-long : coordinator_form.width ≡ state_length
unfolding description
coordinator-long = refl

-- the newest digest is this description's
pub described : get_or digests 0 0 ≡ digest coordinator_form
unfolding description
described = refl

-- readings and ids take their width whether their numbers fit or not
pub reading-long : (r : Reading) → length (reading_form.save r) ≡ reading_form.width
unfolding reading_form reading_parts pieces
reading-long r = simp (length-append, length-le)

pub ids-long : (i : Ids) → length (ids_form.save i) ≡ ids_form.width
unfolding ids_form pieces
ids-long i = simp (length-append, length-le)

pub timeouts-long : (t : Timeouts) → length (timeouts_form.save t) ≡ timeouts_form.width
unfolding timeouts_form reading_form reading_parts pieces
timeouts-long t = simp (length-append, length-le)

pub clocks-long : (c : Clocks) → length (clocks_form.save c) ≡ clocks_form.width
unfolding clocks_form reading_form reading_parts pieces
clocks-long c = simp (length-append, length-le)
