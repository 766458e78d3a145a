-- What the functions make: the pattern of 1 with a word's upper bits for digits, less 1 or the number before it. Assumes nothing.
use mathlib.Core.Bool.{Bool, true, false, cond, not}
use mathlib.Core.Path.{◌≡◌, ap, ◌∙◌}
use Prim.Native.Nat.{ℕ, ◌+◌, ◌-◌, ◌*◌, ◌/◌, ◌^◌, ◌<◌}
use native.Mathlib.Omega.{arith}
use lib.Bits.{bit_or}
use lib.Dec.{T}
use lib.Ieee.{Float, Format, binary32, binary64, prec, emax, hid, sub, of_bits, nan_bits}
use Rattle.floats.specs.patterns.Numbers.{one}
use Rattle.floats.specs.units.Unit.{dyadic, wide, unit, open01, unit_of}
use Rattle.floats.proofs.units.Exact.{dyadic-value, one_value, is_number, down_from}

-- the bits that are digits, and the pattern with them
abbrev pub upper : Format → ℕ → ℕ
upper binary32 w = w / 2 ^ 9
upper binary64 w = w / 2 ^ 12

abbrev pattern : Format → ℕ → ℕ
pattern f w = bit_or (upper f w) (emax f * hid f)

upper_lt : (f : Format) (w : ℕ) → w < 2 ^ wide f → upper f w < hid f
upper_lt binary32 w h = omega arith
upper_lt binary64 w h = omega arith

pub number-made : (f : Format) (w : ℕ) → w < 2 ^ wide f → T (not (nan_bits f (pattern f w)))
number-made f w h = is_number f (upper f w) (upper_lt f w h)

-- 1 - 2 ^ -24, or 1 - 2 ^ -53
abbrev pub below_one : Format → Float
below_one f = dyadic f (2 ^ prec f - 1) (prec f)

pub open01-made : (f : Format) (w : ℕ) → w < 2 ^ wide f → sub f (of_bits f (pattern f w)) (below_one f) ≡ open01 f w
unfolding open01
open01-made binary32 w h =
    let m = upper binary32 w in
    (down_from binary32 m 24 (2 * m + 1) (2 ^ 24 - 1) (below_one binary32) (upper_lt binary32 w h) (omega arith) (omega arith) (omega arith)
    (dyadic-value binary32 (2 ^ 24 - 1) 24 (omega arith) (omega arith))).is
open01-made binary64 w h =
    let m = upper binary64 w in
    (down_from binary64 m 53 (2 * m + 1) (2 ^ 53 - 1) (below_one binary64) (upper_lt binary64 w h) (omega arith) (omega arith) (omega arith)
    (dyadic-value binary64 (2 ^ 53 - 1) 53 (omega arith) (omega arith))).is

pub unit-made : (w : ℕ) → w < 2 ^ wide binary64 → sub binary64 (of_bits binary64 (pattern binary64 w)) one ≡ unit binary64 w
unfolding unit
unit-made w h =
    let m = upper binary64 w in
    (down_from binary64 m 52 m (2 ^ 52) one (upper_lt binary64 w h) (omega arith) (omega arith) (omega arith) (one_value 52)).is

-- either of them, by what is taken off
pub either-made : (nonzero : Bool) (w : ℕ) → w < 2 ^ wide binary64 → {less : Float} → less ≡ cond nonzero (below_one binary64) one
    → sub binary64 (of_bits binary64 (pattern binary64 w)) less ≡ unit_of binary64 nonzero w
either-made true w h e = ap (sub binary64 (of_bits binary64 (pattern binary64 w))) e ∙ open01-made binary64 w h
either-made false w h e = ap (sub binary64 (of_bits binary64 (pattern binary64 w))) e ∙ unit-made w h
