-- What holds of the unit floats of every word. Proved in proofs/units/Theorems.antt under the same names.
use Rattle.std.specs.Prelude.{ℕ, ◌-◌, ◌^◌, ◌<◌, T}
use Rattle.std.specs.Float.{Format}
use Rattle.std.specs.Float.Ieee.{lt}
use Rattle.floats.specs.patterns.Domains.{positive_normal, is_u1, is_u2}
use Rattle.floats.specs.patterns.Numbers.{zero, one}
use Rattle.floats.specs.units.Unit.{Exactly, wide, digits, places, unit, one_minus_unit, open_digits, open_places, open01}

-- a unit is floor(w / 2 ^ 8) / 2 ^ 24, or floor(w / 2 ^ 12) / 2 ^ 52, with nothing rounded
abbrev pub UnitExact : Type 0
UnitExact = (f : Format) (w : ℕ) → w < 2 ^ wide f → Exactly f (digits f w) (places f) (unit f w)

-- 1 - unit is exact too
abbrev pub OneMinusUnitExact : Type 0
OneMinusUnitExact = (f : Format) (w : ℕ) → w < 2 ^ wide f → Exactly f (2 ^ places f - digits f w) (places f) (one_minus_unit f w)

-- a unit is in Box-Muller's domain of u2, and 1 - unit in that of u1
abbrev pub UnitsPass : Type 0
UnitsPass = (f : Format) (w : ℕ) → w < 2 ^ wide f → T (is_u1 f (one_minus_unit f w)) × T (is_u2 (unit f w))

-- ---- units that are never 0
-- (2 floor(w / 2 ^ 9) + 1) / 2 ^ 24, or (2 floor(w / 2 ^ 12) + 1) / 2 ^ 53, with nothing rounded
abbrev pub Open01Exact : Type 0
Open01Exact = (f : Format) (w : ℕ) → w < 2 ^ wide f → Exactly f (open_digits f w) (open_places f) (open01 f w)

-- strictly between 0 and 1
abbrev pub Open01Between : Type 0
Open01Between = (f : Format) (w : ℕ) → w < 2 ^ wide f → T (lt zero (open01 f w)) × T (lt (open01 f w) one)

-- so the logarithm accepts them, and so does Box-Muller as u1
abbrev pub Open01Pass : Type 0
Open01Pass = (f : Format) (w : ℕ) → w < 2 ^ wide f → T (positive_normal f (open01 f w)) × T (is_u1 f (open01 f w))
