-- A product with 1 or -1 is the value or its negative, and the pattern of 1 or -1. Assumes nothing.
use mathlib.Core.Bool.{Bool, true, false, not, cond}
use mathlib.Core.Path.{◌≡◌, refl, ap, ◌∙◌}
use Prim.Native.Nat.{ℕ, zero, suc, ◌*◌, ◌%◌, ◌<◌}
use native.Mathlib.Omega.{arith}
use lib.Bits.{bit_or}
use native.Mathlib.Nat.{mul-one}
use lib.Dec.{T, eqb}
use lib.Ieee.{Float, Format, binary32, binary64, nan, inf, fin, up, down, unlike, round, mul, neg, fits, emax, hid, top, of_bits}
use lib.Ieee.Fits.{neg-fits, add-fits, mul-fits, cond-fits}
use Rattle.math.specs.Turns.{sign_of, sin_poly, cos_poly, cos_coefficients64}
use Rattle.floats.specs.patterns.Polynomial.{horner}
use Rattle.math.proofs.Values.{round_self}

unlike_not : (s t : Bool) → unlike s t ≡ cond t (not s) s
unlike_not true true = refl
unlike_not true false = refl
unlike_not false true = refl
unlike_not false false = refl

pub times_sign : (f : Format) (t : Bool) (x : Float) → T (fits f x) → mul f x (sign_of t) ≡ cond t (neg x) x
unfolding mul neg
times_sign f t nan h = case t
  where
    case : (t : Bool) → nan ≡ cond t nan nan
    case true = refl
    case false = refl
times_sign f t (inf s) h = ap inf (unlike_not s t) ∙ case t
  where
    case : (t : Bool) → inf (cond t (not s) s) ≡ cond t (inf (not s)) (inf s)
    case true = refl
    case false = refl
times_sign f t (fin s m e) h =
    ap (λ (n : ℕ). round f (unlike s t) n (down e * 1)) (mul-one (m * up e))
    ∙ ap (λ (n : ℕ). round f (unlike s t) (m * up e) n) (mul-one (down e))
    ∙ ap (λ (b : Bool). round f b (m * up e) (down e)) (unlike_not s t)
    ∙ case t
  where
    case : (t : Bool) → round f (cond t (not s) s) (m * up e) (down e) ≡ cond t (fin (not s) m e) (fin s m e)
    case true = round_self f (not s) m e (neg-fits f (fin s m e) h)
    case false = round_self f s m e h

-- ---- of the sine's or the cosine's polynomial
pub sin_fits : (f : Format) (th : Float) → T (fits f (sin_poly f th))
unfolding sin_poly
sin_fits binary32 th = add-fits binary32 _ _
sin_fits binary64 th = mul-fits binary64 _ _

pub cos_fits : (f : Format) (th : Float) → T (fits f (cos_poly f th))
unfolding cos_poly cos_coefficients64 horner
cos_fits binary32 th = add-fits binary32 _ _
cos_fits binary64 th = add-fits binary64 _ _

pub turned : (f : Format) (t b : Bool) (a c : Float) {x y v sign : Float} → T (fits f a) → T (fits f c) → x ≡ a → y ≡ c → v ≡ cond b x y → sign ≡ sign_of t
    → mul f v sign ≡ cond t (neg (cond b a c)) (cond b a c)
turned f t b a c {x} {y} {v} h k p q r e =
    ap (mul f v) e
    ∙ ap (λ (z : Float). mul f z (sign_of t)) (r ∙ ap (λ (z : Float). cond b z y) p ∙ ap (cond b a) q)
    ∙ times_sign f t (cond b a c) (cond-fits f b a c h k)

-- ---- the pattern of 1.0 with the lowest bit of n for its sign
shifted : (f : Format) (n : ℕ) → n * top f % (2 * top f) ≡ n % 2 * top f
shifted binary32 n = omega arith
shifted binary64 n = omega arith

one_bit : (f : Format) (b : ℕ) → b < 2 → of_bits f (bit_or (b * top f) (emax f * hid f)) ≡ sign_of (eqb b 1)
unfolding of_bits
one_bit binary32 zero h = refl
one_bit binary32 (suc zero) h = refl
one_bit binary64 zero h = refl
one_bit binary64 (suc zero) h = refl
one_bit f (suc (suc b)) h = absurd (omega arith)

pub sign_pattern : (f : Format) (n : ℕ) → of_bits f (bit_or (n * top f % (2 * top f)) (emax f * hid f)) ≡ sign_of (eqb (n % 2) 1)
sign_pattern f n = ap (λ (x : ℕ). of_bits f (bit_or x (emax f * hid f))) (shifted f n) ∙ one_bit f (n % 2) (omega arith)
