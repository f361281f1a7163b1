-- A signer's keys: its set, or none.
-- Assumes nothing.
use Prim.Native.Nat.{◌≤◌}
use mathlib.Core.Path.{◌≡◌}
use mathlib.Core.Bool.{true, false}
use mathlib.Core.List.{[]}
use native.Mathlib.Omega.{arith}
use borrow.Author.Tests.{leb-true}
use lib.ListN.{length, length-map}
use lib.Seq.{length-take-le}
use Rattle.layout.specs.Limits.{list_limit}
use Rattle.validity.specs.declared.keys.KeyIds.{KeyIds}
use Rattle.validity.specs.Keys.{listed}
use Rattle.state.specs.declared.fields.SignerEntry.{SignerEntry}
use Rattle.state.specs.Counts.{entry_within}
use Rattle.key_counts.specs.Sets.{set_of}

-- a set of at most sixteen keys, as long as it counts
pub listed-length : (k : KeyIds) → length k.ids ≡ 16 → k.count ≤ 16 → length (listed k) ≡ k.count
unfolding listed
listed-length k l h = length-take-le k.count _ (rw length-map (omega arith))

pub entry-few : (e : SignerEntry) → entry_within e ≡ true → e.has_keys ≡ true → e.keys.count ≤ list_limit
unfolding entry_within
entry-few e w h = leb-true e.keys.count list_limit (rw h at w)

pub set_there : (e : SignerEntry) → e.has_keys ≡ true → set_of e ≡ listed e.keys
unfolding set_of
set_there e h = rw h

pub set_none : (e : SignerEntry) → e.has_keys ≡ false → set_of e ≡ []
unfolding set_of
set_none e h = rw h
