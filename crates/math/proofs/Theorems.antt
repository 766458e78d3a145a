-- The claims of specs/Claims.antt. Assumes nothing.
use mathlib.Core.Bool.{Bool, true, false, not}
use mathlib.Core.Path.{◌≡◌, refl, sym, ap, ◌∙◌, subst}
use Prim.Native.Nat.{ℕ, ◌+◌, ◌-◌, ◌*◌, ◌%◌, ◌^◌, ◌≤◌, ◌<◌}
use native.Mathlib.Nat.{le_trans}
use native.Mathlib.Omega.{arith}
use lib.Dec.{T, ltb, ltb→lt, lit≤}
use lib.IntN.{ℤ, pos, nat_abs}
use lib.Signed.{non_neg}
use lib.Ieee.{Float, Format, binary32, binary64, prec}
use lib.Ieee.{fin, fits, up, down, lt, round, add, sub, mul, div, neg, of_int, of_bits, to_bits}
use lib.Ieee.Exact.{HasValue}
use lib.Ieee.Fits.{and_l, and_r, down_pos}
use mir.Val.{of_z}
use Rattle.floats.specs.patterns.Domains.{reach, in_reach}
use Rattle.floats.specs.patterns.Polynomial.{horner}
use Rattle.math.specs.BoxMuller.{minus_twice}
use Rattle.math.specs.Ln.{exponent32, exponent64, coefficients32, coefficients64, reduced32, reduced64, ln_bits32, ln_bits64, ln}
use Rattle.math.specs.Turns.{shifted, quarter, whole_quarters}
use Rattle.math.specs.Sqrt.{guess_of, newton_step, corrected, sqrt}
use Rattle.math.specs.Claims.{signed, nearest4, width, cast, QuarterNearest, QuarterWhole, AtOne}
use Rattle.math.proofs.Quarter as quarters
use Rattle.math.proofs.Whole.{whole_is, of_int_value, cast_back, low_bits, abs_signed}

-- a turn in reach is below 2 ^ reach in size
size_lt : (f : Format) (s : Bool) (m : ℕ) (e : ℤ) → T (in_reach f (fin s m e)) → m * up e * 1 < 1 * 2 ^ reach f * down e
unfolding in_reach lt
size_lt f false m e t = ltb→lt (m * up e * 1) (1 * 2 ^ reach f * down e) (and_r (lt (fin true 1 (pos (reach f))) (fin false m e)) (ltb (m * up e * 1) (1 * 2 ^ reach f * down e)) t)
size_lt f true m e t = ltb→lt (m * up e * 1) (1 * 2 ^ reach f * down e) (and_l (ltb (m * up e * 1) (1 * 2 ^ reach f * down e)) (lt (fin true m e) (fin false 1 (pos (reach f)))) t)

four_times : (f : Format) (x d : ℕ) → x * 1 < 1 * 2 ^ reach f * d → 4 * x < 2 ^ (prec f - 2) * d
four_times binary32 x d h = omega arith
four_times binary64 x d h = omega arith

pub quarter_nearest : QuarterNearest
unfolding quarter shifted round
quarter_nearest binary32 s m e t r = quarters.quarter binary32 s m e t (four_times binary32 (m * up e) (down e) (size_lt binary32 s m e r))
quarter_nearest binary64 s m e t r = quarters.quarter binary64 s m e t (four_times binary64 (m * up e) (down e) (size_lt binary64 s m e r))

-- a turn in reach is nearest to at most 2 ^ (reach + 2) quarters, a number of fewer digits than the format keeps
in_reach_le : (f : Format) (s : Bool) (m : ℕ) (e : ℤ) → T (in_reach f (fin s m e)) → nearest4 m e ≤ 2 ^ (reach f + 2)
in_reach_le f s m e r =
    quarters.closest_le (4 * (m * up e)) (down e) (2 ^ (reach f + 2)) (down_pos e) (go f (m * up e) (down e) (size_lt f s m e r))
  where
    go : (f : Format) (x d : ℕ) → x * 1 < 1 * 2 ^ reach f * d → 4 * x < 2 ^ (reach f + 2) * d
    go binary32 x d h = omega arith
    go binary64 x d h = omega arith

short : (f : Format) → 2 ^ (reach f + 2) ≤ 2 ^ prec f
short binary32 = lit≤ tt
short binary64 = lit≤ tt

pub quarter-whole : QuarterWhole
unfolding quarter shifted round
quarter-whole f s m e t r =
    let n = nearest4 m e in
    let z = signed s n in
    let q = float f t r in
    let small = in_reach_le f s m e r in
    let size : nat_abs z ≤ 2 ^ (reach f + 2) = subst (λ (k : ℕ). k ≤ 2 ^ (reach f + 2)) (sym (abs_signed s n)) small in
    let held : nat_abs z ≤ 2 ^ prec f = le_trans size (short f) in
    let whole : cast f (whole_quarters f (fin s m e)) ≡ z = ap (cast f) q ∙ cast_back f z held in
    let bits = ap (λ (k : ℤ). of_z (width f) k % 4) whole ∙ low_bits f s n (le_trans small (short f)) in
    record {
      is = q;
      value = subst (λ (x : Float). HasValue x (not (non_neg z)) (nat_abs z) 1) (sym q) (of_int_value f z held);
      size = size;
      whole = whole;
      low_bits = bits ∙ sym (quarter_nearest f s m e t r);
    }
  where
    float : (f : Format) → T (fits f (fin s m e)) → T (in_reach f (fin s m e))
        → whole_quarters f (fin s m e) ≡ of_int f (signed s (nearest4 m e))
    float binary32 t r = whole_is binary32 s m e t (four_times binary32 (m * up e) (down e) (size_lt binary32 s m e r))
    float binary64 t r = whole_is binary64 s m e t (four_times binary64 (m * up e) (down e) (size_lt binary64 s m e r))

pub at_one : AtOne
unfolding ln ln_bits32 ln_bits64 exponent32 exponent64 reduced32 reduced64 coefficients32 coefficients64 horner minus_twice sqrt guess_of newton_step corrected of_bits to_bits mul add sub div neg lt of_int round
at_one binary32 = (refl, refl, refl)
at_one binary64 = (refl, refl, refl)
