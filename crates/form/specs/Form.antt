-- How values stand as bytes. A form is a description, made of the pieces below, from which all else follows: how wide a value is, which bytes a
-- save leaves, what bytes say, and whether a save left them.
use Rattle.std.specs.Prelude.{ℕ, zero, suc, ◌+◌, ◌*◌, ◌%◌, ◌<◌, ◌^◌, ◌≡◌, Bool, true, false, ◌&&◌, List, [], ◌∷◌, ◌++◌, eqb, leb, length, get_or, take, drop}
use Prim.Native.Char.{Char, code}
use Prim.Native.String as String
use Prim.Native.String.{String}
use Rattle.wire.specs.Bytes.{le, number_at, are_same_bytes, All}

pub record Form (A : Type 0) : Type 1 where
  pub width : ℕ
  -- a value's bytes
  pub save : A → List ℕ
  -- what bytes say, from a place on; a byte past their end counts 0
  pub load : List ℕ → ℕ → A
  -- whether a save left the bytes there. Numbers are given back whatever they are, so only flags, codes and constants are looked at
  pub left : List ℕ → ℕ → Bool
  -- what a value's type says of it: each number fits its bytes, each array has its length
  pub Fits : A → Type 0
  -- the description itself, as numbers: two forms whose pieces, widths, names or order differ have different outlines
  pub outline : List ℕ

-- The pieces.

-- a number of w bytes, little-endian
unfoldable pub number : ℕ → Form ℕ
number w =
    record {
      width = w;
      save = le w;
      load = λ s at. number_at w at s;
      left = λ s at. true;
      Fits = λ x. x < 256 ^ w;
      outline = 1 ∷ w ∷ [];
    }

-- a number that is one byte
unfoldable pub byte : Form ℕ
byte =
    record {
      width = 1;
      save = λ x. x ∷ [];
      load = λ s at. get_or s at 0;
      left = λ s at. true;
      Fits = λ x. x < 256;
      outline = 2 ∷ [];
    }

-- a flag is one byte, 0 or 1
abbrev pub bit : Bool → ℕ
bit true = 1
bit false = 0

abbrev pub flag_at : List ℕ → ℕ → Bool
flag_at s at = eqb (get_or s at 0) 1

unfoldable pub flag : Form Bool
flag =
    record {
      width = 1;
      save = λ b. bit b ∷ [];
      load = flag_at;
      left = λ s at. leb (get_or s at 0) 1;
      Fits = λ b. Unit {0};
      outline = 3 ∷ [];
    }

-- n bytes, as they are
unfoldable pub bytes_at : List ℕ → ℕ → ℕ → List ℕ
bytes_at s at zero = []
bytes_at s at (suc n) = get_or s at 0 ∷ bytes_at s (at + 1) n

unfoldable pub bytes : ℕ → Form (List ℕ)
bytes n =
    record {
      width = n;
      save = λ bs. bs;
      load = λ s at. bytes_at s at n;
      left = λ s at. true;
      Fits = λ bs. length bs ≡ n;
      outline = 4 ∷ n ∷ [];
    }

-- bytes that are always the same
unfoldable pub constant : List ℕ → Form (Unit {0})
constant bs =
    record {
      width = length bs;
      save = λ u. bs;
      load = λ s at. tt;
      left = λ s at. are_same_bytes bs (take (length bs) (drop at s));
      Fits = λ u. Unit {0};
      outline = 5 ∷ length bs ∷ [];
    }

-- n elements, one after the other
unfoldable pub saved_each : {A : Type 0} → (A → List ℕ) → List A → List ℕ
saved_each f [] = []
saved_each f (x ∷ xs) = f x ++ saved_each f xs

unfoldable pub each_at : {A : Type 0} → (List ℕ → ℕ → A) → ℕ → List ℕ → ℕ → ℕ → List A
each_at f w s at zero = []
each_at f w s at (suc n) = f s at ∷ each_at f w s (at + w) n

unfoldable pub every_at : (List ℕ → ℕ → Bool) → ℕ → List ℕ → ℕ → ℕ → Bool
every_at f w s at zero = true
every_at f w s at (suc n) = f s at && every_at f w s (at + w) n

unfoldable pub each : {A : Type 0} → ℕ → Form A → Form (List A)
each n F =
    record {
      width = F.width * n;
      save = saved_each F.save;
      load = λ s at. each_at F.load F.width s at n;
      left = λ s at. every_at F.left F.width s at n;
      Fits = λ xs. (length xs ≡ n) × All F.Fits xs;
      outline = 6 ∷ n ∷ F.outline;
    }

-- A tuple: its fields by name, one after the other. Each stands k bytes after the tuple's beginning, where k is the width of those before it.
pub record Fields (T : Type 0) : Type 1 where
  pub widths : ℕ
  pub saves : T → List ℕ
  pub loads : List ℕ → ℕ → ℕ → T
  pub lefts : List ℕ → ℕ → ℕ → Bool
  pub Fit : T → Type 0
  pub outlines : List ℕ

abbrev pub place : ℕ → ℕ → ℕ
place at zero = at
place at (suc k) = at + suc k

abbrev letters : String → List ℕ
letters String.[] = []
letters (String.◌∷◌ c cs) = code c ∷ letters cs

unfoldable pub end : Fields (Unit {0})
end = record { widths = 0; saves = λ t. []; loads = λ s at k. tt; lefts = λ s at k. true; Fit = λ t. Unit {0}; outlines = 7 ∷ [] }

unfoldable pub field : {A T : Type 0} → String → Form A → Fields T → Fields (A × T)
field name F Fs =
    record {
      widths = F.width + Fs.widths;
      saves = λ t. F.save t.0 ++ Fs.saves t.1;
      loads = λ s at k. (F.load s (place at k), Fs.loads s at (k + F.width));
      lefts = λ s at k. F.left s (place at k) && Fs.lefts s at (k + F.width);
      Fit = λ t. F.Fits t.0 × Fs.Fit t.1;
      outlines = 8 ∷ (letters name ++ (F.outline ++ Fs.outlines));
    }

-- `field .. ▸ field .. ▸ end`: one after the other
infixr 5 ◌▸◌
abbrev pub ◌▸◌ : {T U : Type 0} → (Fields U → Fields T) → Fields U → Fields T
f ▸ Fs = f Fs

unfoldable pub tuple : {T : Type 0} → Fields T → Form T
tuple Fs =
    record {
      width = Fs.widths;
      save = Fs.saves;
      load = λ s at. Fs.loads s at 0;
      left = λ s at. Fs.lefts s at 0;
      Fits = Fs.Fit;
      outline = Fs.outlines;
    }

-- `a & b & tt`: a tuple's values, one after the other
infixr 5 ◌&◌
abbrev pub ◌&◌ : {A B : Type 0} → A → B → A × B
x & y = (x, y)

-- a struct and the tuple of its fields say the same
pub record Like (S T : Type 0) : Type 0 where
  pub apart : S → T
  pub whole : T → S

unfoldable pub like : {S T : Type 0} → Like S T → Form T → Form S
like l F =
    record {
      width = F.width;
      save = λ x. F.save (l.apart x);
      load = λ s at. l.whole (F.load s at);
      left = F.left;
      Fits = λ x. F.Fits (l.apart x);
      outline = F.outline;
    }

-- values told by others, as those of an enum by numbers; `told` says which of these tell a value
pub record Code (E T : Type 0) : Type 0 where
  pub coded : E → T
  pub value : T → E
  pub told : T → Bool

unfoldable pub enum : {E T : Type 0} → Code E T → Form T → Form E
enum c F =
    record {
      width = F.width;
      save = λ x. F.save (c.coded x);
      load = λ s at. c.value (F.load s at);
      left = λ s at. F.left s at && c.told (F.load s at);
      Fits = λ x. F.Fits (c.coded x);
      outline = 9 ∷ F.outline;
    }

-- to unfold this is to unfold every piece
unfoldable pub pieces : Unit {0}
unfolding number byte flag bytes constant each end field tuple like enum
pieces = tt

-- an outline as one number: its numbers as digits to the base 1,000,003, modulo a prime
abbrev folded : ℕ → List ℕ → ℕ
folded h [] = h
folded h (x ∷ xs) = folded ((h * 1000003 + x + 1) % 2305843009213693951) xs

abbrev pub digest : {A : Type 0} → Form A → ℕ
digest F = folded 0 F.outline
