-- The loop's invariant: the total and the key ids that are left make up all. The loop ends above 16, so the total fits.
-- Assumes nothing.
use Prim.Native.Nat.{ℕ, ◌+◌, ◌*◌, ◌-◌, ◌≤◌}
use mathlib.Core.Path.{◌≡◌}
use mathlib.Core.List.{List, map}
use Rattle.layout.specs.LaidOut.{parts_from}
use Rattle.layout.specs.Decode.{share_in, key_count}
use Rattle.packet.proofs.reader.are_share_keys_within.Given as goal

-- the key ids of the shares from share i on, of n
abbrev pub keys : List ℕ → ℕ → ℕ → ℕ
keys s i n = key_count (map share_in (parts_from s (32 + 8 * i) (n - i)))

abbrev pub invariant-loop-i : goal.invariant-loop-i
invariant-loop-i l = (l.total + keys l.s l.i l.pairs ≡ keys l.s 0 l.pairs) × (l.total ≤ 16)
