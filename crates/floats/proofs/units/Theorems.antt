-- The claims of specs/units/Claims.antt. Assumes nothing.
use mathlib.Core.Path.{◌≡◌, refl, subst}
use Prim.Native.Nat.{ℕ, ◌-◌, ◌^◌, ◌≤◌, ◌<◌}
use native.Mathlib.Omega.{arith}
use lib.Ieee.{Format, binary32, binary64, prec, emax, low}
use Rattle.floats.specs.patterns.Numbers.{one}
use Rattle.floats.specs.units.Unit.{wide, digits, places, unit, one_minus_unit, open_digits, open_places, open01}
use Rattle.floats.specs.units.Claims.{UnitExact, OneMinusUnitExact, UnitsPass, Open01Exact, Open01Between, Open01Pass}
use Rattle.floats.proofs.units.Exact.{exactly, lessened, one_value}
use Rattle.floats.proofs.units.Range.{normal_passes, first_passes, second_passes, over_zero, under_one}

-- a word's upper bits are below 2 ^ places, and the format keeps that many
pub digits_lt : (f : Format) (w : ℕ) → w < 2 ^ wide f → digits f w < 2 ^ places f
digits_lt binary32 w h = omega arith
digits_lt binary64 w h = omega arith

kept : (f : Format) (n : ℕ) → n ≤ 2 ^ places f → n ≤ 2 ^ prec f
kept binary32 n h = h
kept binary64 n h = omega arith

deep : (f : Format) → places f ≤ low f
deep binary32 = omega arith
deep binary64 = omega arith

less : (a b : ℕ) → a < b → a ≤ b
less a b h = omega arith

rest : (a b : ℕ) → a - b ≤ a
rest a b = omega arith

pub unit_exact : UnitExact
unfolding unit
unit_exact f w h = exactly f (digits f w) (places f) (unit f w) (kept f (digits f w) (less (digits f w) (2 ^ places f) (digits_lt f w h))) (deep f) refl

pub one_minus_unit_exact : OneMinusUnitExact
unfolding one_minus_unit
one_minus_unit_exact f w h =
    lessened f one (unit f w) (2 ^ places f) (digits f w) (places f) (kept f (2 ^ places f - digits f w) (rest (2 ^ places f) (digits f w))) (deep f)
    (less (digits f w) (2 ^ places f) (digits_lt f w h)) (one_value (places f)) (unit_exact f w h).value

-- 2 ^ - places is no subnormal
shallow : (f : Format) → places f ≤ emax f - 1
shallow binary32 = omega arith
shallow binary64 = omega arith

above : (a b : ℕ) → b < a → 0 < a - b
above a b h = omega arith

pub units_pass : UnitsPass
units_pass f w h =
    let d = digits f w in
    let p = 2 ^ places f in (
      first_passes f (one_minus_unit f w) (p - d) (places f) (above p d (digits_lt f w h)) (rest p d) (shallow f)
          (one_minus_unit_exact f w h).value,
      second_passes (unit f w) d (places f) (digits_lt f w h) (unit_exact f w h).value,
    )

-- ---- units that are never 0: twice the bits and 1 are odd, below 2 ^ open_places, and the format keeps that many digits
odd_pos : (f : Format) (w : ℕ) → 0 < open_digits f w
odd_pos binary32 w = omega arith
odd_pos binary64 w = omega arith

odd_lt : (f : Format) (w : ℕ) → w < 2 ^ wide f → open_digits f w < 2 ^ open_places f
odd_lt binary32 w h = omega arith
odd_lt binary64 w h = omega arith

all_kept : (f : Format) → open_places f ≡ prec f
all_kept binary32 = refl
all_kept binary64 = refl

open_deep : (f : Format) → open_places f ≤ low f
open_deep binary32 = omega arith
open_deep binary64 = omega arith

open_shallow : (f : Format) → open_places f ≤ emax f - 1
open_shallow binary32 = omega arith
open_shallow binary64 = omega arith

odd_le : (f : Format) (w : ℕ) → w < 2 ^ wide f → open_digits f w ≤ 2 ^ open_places f
odd_le f w h = less (open_digits f w) (2 ^ open_places f) (odd_lt f w h)

pub open01_exact : Open01Exact
unfolding open01
open01_exact f w h =
    exactly f (open_digits f w) (open_places f) (open01 f w) (subst (λ (p : ℕ). open_digits f w ≤ 2 ^ p) (all_kept f) (odd_le f w h))
    (open_deep f) refl

pub open01_between : Open01Between
open01_between f w h =
    let v = (open01_exact f w h).value in (
      over_zero (open01 f w) (open_digits f w) (open_places f) (odd_pos f w) v,
      under_one (open01 f w) (open_digits f w) (open_places f) (odd_lt f w h) v,
    )

pub open01_pass : Open01Pass
open01_pass f w h =
    let v = (open01_exact f w h).value in (
      normal_passes f (open01 f w) (open_digits f w) (open_places f) (odd_pos f w) (odd_le f w h) (open_shallow f) v,
      first_passes f (open01 f w) (open_digits f w) (open_places f) (odd_pos f w) (odd_le f w h) (open_shallow f) v,
    )
