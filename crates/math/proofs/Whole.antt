-- (4t + MAGIC) - MAGIC is the whole number nearest to 4t itself, for |4t| below 2^(prec - 2), and the cast gives that number back. Once for
-- both formats. Assumes nothing.
use mathlib.Core.Bool.{Bool, true, false, not}
use mathlib.Core.Path.{◌≡◌, refl, sym, ap, ◌∙◌}
use Prim.Native.Nat.{ℕ, zero, suc, ◌+◌, ◌-◌, ◌*◌, ◌%◌, ◌^◌, ◌≤◌, ◌<◌}
use native.Mathlib.Nat.{lt_of_le_of_lt, mul-le-mul_right, mul-one, le_trans}
use native.Mathlib.Omega.{arith}
use lib.Dec.{T, lt→ltb, le→leb, lit<, lit≤}
use lib.IntN.{ℤ, pos, negsuc, nat_abs}
use lib.Pow.{pow_pos}
use lib.Signed.{non_neg}
use lib.Ieee.{Float, Format, binary32, binary64, fin, prec, emax, low, up, down, units, round, add, sub, mul, fits, of_int, in_float}
use lib.Ieee.Back.{round_whole, positive_back, negative_back}
use lib.Ieee.Exact.{HasValue, units_val}
use lib.Ieee.Fits.{down_pos}
use lib.Ieee.Nearest.{closest}
use mir.Val.{hbits, of_z}
use Rattle.floats.proofs.units.Exact.{rescale, sub_values, sub_less}
use Rattle.math.specs.Claims.{modulo4, signed, width, cast}
use Rattle.math.proofs.Quarter.{four, magic, half, shifted, closest_le, total, sum_is, total_bounds}

-- ---- b + n less b is n, and b - n less b is - n
difference : (f : Format) (x y : Float) (s : Bool) (n b : ℕ) → n ≤ b → HasValue x false (shifted s n b) 1 → HasValue y false b 1
    → sub f x y ≡ of_int f (signed s n)
unfolding of_int
difference f x y false n b h v w =
    sub_values f x y (b + n) b 1 (lit< tt) (omega arith) v w ∙ ap (λ (z : ℕ). round f false z 1) (omega arith)
difference f x y true zero b h v w =
    sub_values f x y (b - 0) b 1 (lit< tt) (omega arith) v w ∙ ap (λ (z : ℕ). round f false z 1) (omega arith)
difference f x y true (suc k) b h v w =
    sub_less f x y (b - suc k) b 1 (lit< tt) (omega arith) v w ∙ ap (λ (z : ℕ). round f true z 1) (omega arith)

-- MAGIC, and the sum with it, are whole numbers
magic-whole : (f : Format) → HasValue (magic f) false (2 * half f) 1
magic-whole binary32 = (refl, refl)
magic-whole binary64 = (refl, refl)

sum_whole : (f : Format) (N : ℕ) → N ≤ 2 ^ prec f → HasValue (units f false N (low f)) false N 1
sum_whole f N h =
    rescale (units f false N (low f)) false (N * 2 ^ low f) (2 ^ low f) N 1 (pow_pos (low f)) (sym (mul-one (N * 2 ^ low f)))
    (units_val f false N (low f) (lt_of_le_of_lt (mul-le-mul_right (2 ^ low f) h) (room f)))
  where
    room : (f : Format) → 2 ^ prec f * 2 ^ low f < 2 ^ (low f + suc (emax f))
    room binary32 = lit< tt
    room binary64 = lit< tt

magic-above : (f : Format) → 2 ^ (prec f - 2) ≤ 2 * half f
magic-above binary32 = lit≤ tt
magic-above binary64 = lit≤ tt

pub whole_is : (f : Format) (s : Bool) (m : ℕ) (e : ℤ) → T (fits f (fin s m e)) → 4 * (m * up e) < 2 ^ (prec f - 2) * down e
    → sub f (add f (mul f four (fin s m e)) (magic f)) (magic f) ≡ of_int f (signed s (closest (4 * (m * up e)) (down e)))
whole_is f s m e t l =
    ap (λ (x : Float). sub f x (magic f)) (sum_is f s m e t l)
    ∙ difference f (units f false (total f s m e) (low f)) (magic f) s (closest (4 * (m * up e)) (down e)) (2 * half f)
    (le_trans (closest_le (4 * (m * up e)) (down e) (2 ^ (prec f - 2)) (down_pos e) l) (magic-above f))
    (sum_whole f (total f s m e) (total_bounds f s m e l).1) (magic-whole f)

-- ---- a whole number of at most prec digits, as a float: its value, the cast back, and the low two bits of that
pub of_int_value : (f : Format) (z : ℤ) → nat_abs z ≤ 2 ^ prec f → HasValue (of_int f z) (not (non_neg z)) (nat_abs z) 1
unfolding of_int
of_int_value f (pos n) h = round_whole f false n h
of_int_value f (negsuc k) h = round_whole f true (suc k) h

pub cast_back : (f : Format) (z : ℤ) → nat_abs z ≤ 2 ^ prec f → cast f (of_int f z) ≡ z
unfolding in_float
cast_back f (pos n) h = (positive_back f (hbits (width f)) n (le→leb n (2 ^ prec f) h) (lt_of_le_of_lt h (room f))).1
  where
    room : (f : Format) → 2 ^ prec f < 2 ^ hbits (width f)
    room binary32 = lit< tt
    room binary64 = lit< tt
cast_back f (negsuc k) h = (negative_back f (hbits (width f)) k (lt→ltb k (2 ^ prec f) h) (le_trans h (room f))).1
  where
    room : (f : Format) → 2 ^ prec f ≤ 2 ^ hbits (width f)
    room binary32 = lit≤ tt
    room binary64 = lit≤ tt

pub low_bits : (f : Format) (s : Bool) (n : ℕ) → n ≤ 2 ^ prec f → of_z (width f) (signed s n) % 4 ≡ modulo4 s n
low_bits f false n h = refl
low_bits f true zero h = refl
low_bits binary32 true (suc k) h = omega arith
low_bits binary64 true (suc k) h = omega arith

pub abs_signed : (s : Bool) (n : ℕ) → nat_abs (signed s n) ≡ n
abs_signed false n = refl
abs_signed true zero = refl
abs_signed true (suc k) = refl
