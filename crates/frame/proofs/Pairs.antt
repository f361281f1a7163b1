-- Pairs one by one: pair i, then those after it, of n.
-- Assumes nothing.
use Prim.Native.Nat.{ℕ, suc, ◌+◌, ◌*◌, ◌-◌, ◌≤◌, ◌<◌}
use mathlib.Core.Path.{◌≡◌, sym, ◌∙◌}
use mathlib.Core.Bool.{false, ◌&&◌}
use mathlib.Core.List.{List}
use native.Mathlib.Omega.{arith}
use borrow.Author.Tests.{eq-eqb, ne_eqb}
use lib.Dec.{eqb}
use lib.ListN.{length}
use Rattle.wire.specs.Bytes.{number_at}
use Rattle.layout.specs.LaidOut.{tiles}

step : (s : List ℕ) (i n at : ℕ) → i < n → tiles s (32 + 8 * i) (n - i) at
    ≡ (eqb (number_at 4 (32 + 8 * i) s) at && tiles s (32 + 8 * (i + 1)) (n - (i + 1)) (at + number_at 4 (32 + 8 * i + 4) s))
unfolding tiles
step s i n at h =
    let e : n - i ≡ suc (n - (i + 1)) = omega arith in
    let p : 32 + 8 * i + 8 ≡ 32 + 8 * (i + 1) = omega arith in
    rw (e, p)

-- its part begins where the last ended: the rest decides
pub tiles_next : (s : List ℕ) (i n at offset size : ℕ) → i < n → offset ≡ number_at 4 (32 + 8 * i) s
    → size ≡ number_at 4 (32 + 8 * i + 4) s → offset ≡ at
    → tiles s (32 + 8 * (i + 1)) (n - (i + 1)) (at + size) ≡ tiles s (32 + 8 * i) (n - i) at
tiles_next s i n at offset size h o z e = sym (rw (step s i n at h, eq-eqb _ _ (sym o ∙ e), ← z))

-- it does not: they do not tile
pub tiles_not : (s : List ℕ) (i n at offset : ℕ) → i < n → offset ≡ number_at 4 (32 + 8 * i) s → (offset ≡ at → ⊥)
    → tiles s (32 + 8 * i) (n - i) at ≡ false
tiles_not s i n at offset h o e = rw (step s i n at h, ne_eqb _ _ (λ q. e (o ∙ q)))

pub tiles_end : (s : List ℕ) (i n at : ℕ) → n ≤ i → tiles s (32 + 8 * i) (n - i) at ≡ eqb at (length s)
unfolding tiles
tiles_end s i n at h = let e : n - i ≡ 0 = omega arith in rw e
