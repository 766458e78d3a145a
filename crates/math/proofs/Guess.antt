-- Where the pattern of the square root's first guess is a NaN's: just between two negative bounds. Assumes nothing.
use borrow.Author.Tests.{leb-true, leb-false}
use mathlib.Core.Bool.{Bool, true, false, not, ◌||◌}
use mathlib.Core.Logic.{◌⊎◌, inl, inr}
use mathlib.Core.Path.{◌≡◌, refl, sym, ap, subst, ◌∙◌}
use Prim.Native.Nat.{◌^◌, ℕ, suc, ◌+◌, ◌-◌, ◌*◌, ◌/◌, ◌%◌, ◌≤◌, ◌<◌}
use native.Mathlib.Nat.{lt_of_le_of_lt}
use native.Mathlib.Omega.{arith}
use lib.Dec.{T, leb, lit<, lit≤}
use lib.IntN.{ℤ, negsuc}
use lib.Ieee.{Float, Format, binary32, binary64, nan, inf, fin, hid, ones, top, le, lt, eq, fits, is_nan, nan_bits, to_bits, of_bits}
use lib.Ieee.Bits.{to_bits-lt}
use Rattle.floats.proofs.patterns.Nan.{nan_pattern, number_pattern}
use Rattle.math.proofs.Order.{at_most, at_least}

-- the guess's pattern: c less half the pattern b
abbrev pub less : Format → ℕ → ℕ → ℕ
less f c b = (c + (2 * top f - b / 2)) % (2 * top f)

-- what is computed of a bound: it is a number of the format, and its pattern is between those of -0 and the negative infinity
pub record Bound (f : Format) (x : Float) : Type 0 where
  pub held : T (fits f x)
  pub above : top f ≤ to_bits f x
  pub finite : to_bits f x < top f + ones f * hid f

-- the bounds that are the constant's
pub record Bounds (f : Format) (c n m : ℕ) (d e : ℤ) : Type 0 where
  pub low : Bound f (fin true (suc n) d)
  pub high : Bound f (fin true (suc m) e)
  pub room : ones f * hid f < top f
  pub number : (b : ℕ) → b < 2 * top f → (to_bits f (fin true (suc n) d) ≤ b) ⊎ (b ≤ to_bits f (fin true (suc m) e)) → less f c b % top f ≤ ones f * hid f
  pub none : (b : ℕ) → to_bits f (fin true (suc m) e) < b → b < to_bits f (fin true (suc n) d) → ones f * hid f < less f c b % top f

module _ {f : Format} {c n m : ℕ} {d e : ℤ} (w : Bounds f c n m d e) where
  abbrev LOW : Float
  LOW = fin true (suc n) d

  abbrev HIGH : Float
  HIGH = fin true (suc m) e

  compared : (v : Float) → T (fits f v) → is_nan v ≡ false → le v LOW || le HIGH v ≡ leb (to_bits f LOW) (to_bits f v) || leb (to_bits f v) (to_bits f HIGH)
  compared v h g =
      ap (λ (t : Bool). t || le HIGH v) (at_most f n d w.low.held w.low.above w.low.finite w.room v h g)
      ∙ ap (λ (t : Bool). leb (to_bits f LOW) (to_bits f v) || t) (at_least f m e w.high.held w.high.above w.high.finite w.room v h g)

  pub no_nan : (v : Float) → le v LOW || le HIGH v ≡ true → is_nan v ≡ false
  unfolding le lt eq is_nan
  no_nan nan t = absurd (subst T (sym t) tt)
  no_nan (inf s) t = refl
  no_nan (fin s k j) t = refl

  pub outside : (v : Float) → T (fits f v) → to_bits f v < 2 * top f → le v LOW || le HIGH v ≡ true → T (not (nan_bits f (less f c (to_bits f v))))
  outside v h l t = number_pattern f (less f c (to_bits f v)) (w.number (to_bits f v) l (either (leb (to_bits f LOW) (to_bits f v)) refl (sym (compared v h (no_nan v t)) ∙ t)))
    where
      either : (a : Bool) → leb (to_bits f LOW) (to_bits f v) ≡ a → a || leb (to_bits f v) (to_bits f HIGH) ≡ true → (to_bits f LOW ≤ to_bits f v) ⊎ (to_bits f v ≤ to_bits f HIGH)
      either true x y = inl (leb-true (to_bits f LOW) (to_bits f v) x)
      either false x y = inr (leb-true (to_bits f v) (to_bits f HIGH) y)

  pub between : (v : Float) → T (fits f v) → le v LOW || le HIGH v ≡ false → is_nan v ≡ false → of_bits f (less f c (to_bits f v)) ≡ nan
  between v h t g = go (leb (to_bits f LOW) (to_bits f v)) refl (sym (compared v h g) ∙ t)
    where
      go : (a : Bool) → leb (to_bits f LOW) (to_bits f v) ≡ a → a || leb (to_bits f v) (to_bits f HIGH) ≡ false → of_bits f (less f c (to_bits f v)) ≡ nan
      go true x y = absurd (subst T y tt)
      go false x y =
          nan_pattern f (less f c (to_bits f v)) (w.none (to_bits f v) (leb-false (to_bits f v) (to_bits f HIGH) y) (leb-false (to_bits f LOW) (to_bits f v) x))

-- ---- the one word that a wrapping difference can be
wrapped : (f : Format) (c b r : ℕ) → c < 2 * top f → b < 2 * top f → r < 2 * top f → (r + b) % (2 * top f) ≡ c → r ≡ (c + (2 * top f - b)) % (2 * top f)
wrapped binary32 c b r hc hb hr e = omega arith
wrapped binary64 c b r hc hb hr e = omega arith

pub pattern_of : (f : Format) (c : ℕ) (v : Float) (r : ℕ) → c < 2 * top f → T (fits f v) → r < 2 * top f → (r + to_bits f v / 2) % (2 * top f) ≡ c → r ≡ less f c (to_bits f v)
pattern_of f c v r k h l e = wrapped f c (to_bits f v / 2) r k (lt_of_le_of_lt (half (to_bits f v)) (to_bits-lt f v h)) l e
  where
    half : (b : ℕ) → b / 2 ≤ b
    half b = omega arith

-- ---- the constants and bounds of both formats: the bounds' patterns are 0xBF6EB50C and 0xBE6EB50D, 0xBFEDD6A18F6A6F52 and 0xBFCDD6A18F6A6F53
pub bounds32 : Bounds binary32 0x5F37_5A86 3910978 15643916 (negsuc 21) (negsuc 25)
unfolding to_bits fits
bounds32 =
    record {
      low = record { held = tt; above = lit≤ tt; finite = lit< tt };
      high = record { held = tt; above = lit≤ tt; finite = lit< tt };
      room = lit< tt;
      number = outer;
      none = λ b (l : 0xBE6E_B50D < b) (h : b < 0xBF6E_B50C). omega arith;
    }
  where
    outer : (b : ℕ) → b < 2 ^ 32 → (0xBF6E_B50C ≤ b) ⊎ (b ≤ 0xBE6E_B50D) → less binary32 0x5F37_5A86 b % 2 ^ 31 ≤ 0x7F80_0000
    outer b l (inl h) = omega arith
    outer b l (inr h) = omega arith

pub bounds64 : Bounds binary64 0x5FE6_EB50_C7B5_37A9 4199381854402472 8398763708804946 (negsuc 51) (negsuc 54)
unfolding to_bits fits
bounds64 =
    record {
      low = record { held = tt; above = lit≤ tt; finite = lit< tt };
      high = record { held = tt; above = lit≤ tt; finite = lit< tt };
      room = lit< tt;
      number = outer;
      none = λ b (l : 0xBFCD_D6A1_8F6A_6F53 < b) (h : b < 0xBFED_D6A1_8F6A_6F52). omega arith;
    }
  where
    outer : (b : ℕ) → b < 2 ^ 64 → (0xBFED_D6A1_8F6A_6F52 ≤ b) ⊎ (b ≤ 0xBFCD_D6A1_8F6A_6F53) → less binary64 0x5FE6_EB50_C7B5_37A9 b % 2 ^ 63 ≤ 0x7FF0_0000_0000_0000
    outer b l (inl h) = omega arith
    outer b l (inr h) = omega arith
