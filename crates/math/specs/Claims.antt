-- What holds of the float lanes, in both formats. Proved in proofs/Theorems.antt, `QuarterNearest` as `quarter_nearest` and so on.
use Rattle.std.specs.Prelude.{Bool, true, false, not, ◌≡◌, ℕ, ◌+◌, ◌-◌, ◌*◌, ◌%◌, ◌^◌, ◌≤◌, T, ℤ, pos, neg_ℤ, nat_abs, Float}
use Rattle.std.specs.Int.Signed.{non_neg}
use Rattle.std.specs.Float.{Format, binary32, binary64, fin}
use Rattle.std.specs.Float.Ieee.{fits, up, down, of_int, to_signed}
use Rattle.std.specs.Float.Ieee.Exact.{HasValue}
use Rattle.std.specs.Float.Ieee.Nearest.{closest}
use Rattle.std.specs.Int.{Width, w32, w64}
use mir.Val.{hbits, of_z}
use Rattle.floats.specs.patterns.Domains.{reach, in_reach}
use Rattle.floats.specs.patterns.Numbers as numbers
use Rattle.floats.specs.patterns.Numbers.{one}
use Rattle.math.specs.BoxMuller.{minus_twice}
use Rattle.math.specs.Ln.{ln}
use Rattle.math.specs.Turns.{quarter, whole_quarters}
use Rattle.math.specs.Sqrt.{sqrt}

-- n modulo 4, or - n modulo 4
abbrev pub modulo4 : Bool → ℕ → ℕ
modulo4 false n = n % 4
modulo4 true n = (4 - n % 4) % 4

-- the nearest whole number to 4 t, ties to even, for t = m * 2 ^ e; `closest a c` (lib.Ieee) is that number for a / c
abbrev pub nearest4 : ℕ → ℤ → ℕ
nearest4 m e = closest (4 * (m * up e)) (down e)

-- On every turn that is accepted, negative ones too, the low two bits of the pattern of 4 t + MAGIC are the nearest whole number to
-- 4 t, ties to even, modulo 4. t is m * 2 ^ e, negative where s is true.
abbrev pub QuarterNearest : Type 0
QuarterNearest =
    (f : Format) (s : Bool) (m : ℕ) (e : ℤ) → T (fits f (fin s m e)) → T (in_reach f (fin s m e))
    → quarter f (fin s m e) ≡ modulo4 s (nearest4 m e)

-- n, or - n
abbrev pub signed : Bool → ℕ → ℤ
signed false n = pos n
signed true n = neg_ℤ (pos n)

-- the Rust's cast: of an f32 as i32, of an f64 as i64, toward zero; and its bits, as u32 or u64
abbrev pub width : Format → Width
width binary32 = w32
width binary64 = w64

abbrev pub cast : Format → Float → ℤ
cast f x = to_signed (hbits (width f)) x

abbrev pub cast_bits : Format → Float → ℕ
cast_bits f x = of_z (width f) (cast f x)

-- The Rust's q is the whole number z itself: the float of z, which is exactly z, and +0.0 where z is 0. Cast, it is z again, which is far
-- from the ends of i32 and i64; and the cast's low two bits are our quarter.
pub record WholeQuarters (f : Format) (t : Float) (z : ℤ) : Type 0 where
  pub is : whole_quarters f t ≡ of_int f z
  pub value : HasValue (whole_quarters f t) (not (non_neg z)) (nat_abs z) 1
  pub size : nat_abs z ≤ 2 ^ (reach f + 2)
  pub whole : cast f (whole_quarters f t) ≡ z
  pub low_bits : cast_bits f (whole_quarters f t) % 4 ≡ quarter f t

-- on every turn that is accepted, z is the nearest whole number to 4 t, ties to even, with the sign of t
abbrev pub QuarterWhole : Type 0
QuarterWhole =
    (f : Format) (s : Bool) (m : ℕ) (e : ℤ) → T (fits f (fin s m e)) → T (in_reach f (fin s m e))
    → WholeQuarters f (fin s m e) (signed s (nearest4 m e))

-- u1 = 1: ln is +0.0, twice that negated is -0.0, and the root of that is -0.0
abbrev pub minus_zero : Float
minus_zero = fin true 0 (pos 0)

abbrev pub AtOne : Type 0
AtOne = (f : Format) → (ln f one ≡ numbers.zero) × (minus_twice f numbers.zero ≡ minus_zero) × (sqrt f minus_zero ≡ minus_zero)
