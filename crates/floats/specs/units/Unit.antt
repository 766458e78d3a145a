-- Unit floats. `HasValue x s a c` (lib.Ieee.Exact) says that x is finite, has the sign s and is exactly a / c in size.
use Rattle.std.specs.Prelude.{Bool, true, false, ◌≡◌, ℕ, ◌+◌, ◌*◌, ◌/◌, ◌^◌}
use lib.Ieee.{Float, Format, binary32, binary64, round, sub}
use Rattle.std.specs.Float.Ieee.Exact.{HasValue}
use Rattle.floats.specs.patterns.Numbers.{one}

-- the value of the format f that is nearest to n / 2 ^ k
unfoldable pub dyadic : Format → ℕ → ℕ → Float
dyadic f n k = round f false n (2 ^ k)

-- x is that value, and is n / 2 ^ k itself: no bit was lost
pub record Exactly (f : Format) (n k : ℕ) (x : Float) : Type 0 where
  pub is : x ≡ dyadic f n k
  pub value : HasValue x false n (2 ^ k)

-- a word has 32 or 64 bits; its upper bits, as a whole number; and how many of them there are
abbrev pub wide : Format → ℕ
wide binary32 = 32
wide binary64 = 64

abbrev pub digits : Format → ℕ → ℕ
digits binary32 w = w / 2 ^ 8
digits binary64 w = w / 2 ^ 12

abbrev pub places : Format → ℕ
places binary32 = 24
places binary64 = 52

-- floor(w / 2 ^ 8) / 2 ^ 24, or floor(w / 2 ^ 12) / 2 ^ 52
unfoldable pub unit : Format → ℕ → Float
unit f w = dyadic f (digits f w) (places f)

unfoldable pub one_minus_unit : Format → ℕ → Float
one_minus_unit f w = sub f one (unit f w)

-- units that are never 0 (change request K1): (2 m + 1) / 2 ^ 24, m being floor(w / 2 ^ 9), or (2 m + 1) / 2 ^ 53, m being
-- floor(w / 2 ^ 12)
abbrev pub open_digits : Format → ℕ → ℕ
open_digits binary32 w = 2 * (w / 2 ^ 9) + 1
open_digits binary64 w = 2 * (w / 2 ^ 12) + 1

abbrev pub open_places : Format → ℕ
open_places binary32 = 24
open_places binary64 = 53

unfoldable pub open01 : Format → ℕ → Float
open01 f w = dyadic f (open_digits f w) (open_places f)

-- the one that is never 0, or the unit
abbrev pub unit_of : Format → Bool → ℕ → Float
unit_of f true = open01 f
unit_of f false = unit f
