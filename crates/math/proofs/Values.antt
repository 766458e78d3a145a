-- What `fits` says of a value m * 2 ^ e, and that a value of the format is its own rounding. Assumes nothing.
use mathlib.Core.Bool.{Bool, cond, ◌&&◌}
use mathlib.Core.Path.{◌≡◌, refl, sym, ap, ◌∙◌}
use Prim.Native.Nat.{ℕ, zero, suc, ◌+◌, ◌-◌, ◌*◌, ◌/◌, ◌%◌, ◌^◌, ◌≤◌, ◌<◌}
use native.Mathlib.Nat.{le_of_eq, lt_of_lt_of_le, lt_of_le_of_lt, lt_of_mul-lt-mul_right, lt_of_not-le, mul_assoc, mul-lt-mul_of_pos_right, mul-one, mul_right_comm, not-le_of_lt, one-mul, zero-mul}
use native.Mathlib.Omega.{arith}
use lib.Dec.{T, eqb, leb, ltb, leb→le, ltb→lt}
use lib.IntN.{ℤ, pos, negsuc}
use lib.Pow.{pow-add, pow-lt, pow_pos}
use lib.Ieee.{Float, Format, fin, prec, emax, low, hid, top, up, down, size, round, fits, to_bits, of_bits, inf, nan}
use lib.Ieee.Bits.{of_bits-to_bits}
use lib.Ieee.Exact.{HasValue, round_exact}
use lib.Ieee.Fits.{and_l, and_r, down_pos, round-fits}
use lib.Ieee.Nearest.{div_same}

-- ---- the four parts of `fits`
module _ (f : Format) (s : Bool) (m : ℕ) (e : ℤ) (t : T (fits f (fin s (suc m) e))) where
  odd? : Bool
  odd? = eqb (suc m % 2) 1

  short? : Bool
  short? = ltb (suc m) (2 ^ prec f)

  fine? : Bool
  fine? = leb (down e) (2 ^ low f)

  below? : Bool
  below? = ltb (suc m * up e) (2 ^ suc (emax f) * down e)

  three : T (odd? && short? && fine?)
  unfolding odd? short? fine? below? fits
  three = and_l (odd? && short? && fine?) below? t

  short : suc m < 2 ^ prec f
  unfolding odd? short? fine?
  short = ltb→lt (suc m) (2 ^ prec f) (and_r odd? short? (and_l (odd? && short?) fine? three))

  pub fine : down e ≤ 2 ^ low f
  unfolding odd? short? fine?
  fine = leb→le (down e) (2 ^ low f) (and_r (odd? && short?) fine? three)

  below : suc m * up e < 2 ^ suc (emax f) * down e
  unfolding odd? short? fine? below? fits
  below = ltb→lt (suc m * up e) (2 ^ suc (emax f) * down e) (and_r (odd? && short? && fine?) below? t)

pub digits_lt : (f : Format) (s : Bool) (m : ℕ) (e : ℤ) → T (fits f (fin s m e)) → m < 2 ^ prec f
digits_lt f s zero e t = pow_pos (prec f)
digits_lt f s (suc m) e t = short f s m e t

-- 2 ^ i * 2 ^ e is a whole number 2 ^ j of the format's smallest values
pub exponent : (i : ℕ) (e : ℤ) (l : ℕ) → down e ≤ 2 ^ l → (j : ℕ) × (2 ^ i * up e * 2 ^ l ≡ 2 ^ j * down e)
exponent i (pos k) l h = (i + k + l, ap (λ (z : ℕ). z * 2 ^ l) (sym (pow-add 2 i k)) ∙ sym (pow-add 2 (i + k) l) ∙ sym (mul-one (2 ^ (i + k + l))))
exponent i (negsuc k) l h = (
  i + (l - suc k),
  ap (λ (z : ℕ). 2 ^ i * 1 * 2 ^ z) (sym (back l (suc k) (pow_le_back (suc k) l h)))
      ∙ ap (λ (z : ℕ). 2 ^ i * 1 * z) (pow-add 2 (l - suc k) (suc k))
      ∙ sym (mul_assoc (2 ^ i * 1) (2 ^ (l - suc k)) (2 ^ suc k))
      ∙ ap (λ (z : ℕ). z * 2 ^ (l - suc k) * 2 ^ suc k) (mul-one (2 ^ i))
      ∙ ap (λ (z : ℕ). z * 2 ^ suc k) (sym (pow-add 2 i (l - suc k))),
)
  where
    back : (l k : ℕ) → k ≤ l → l - k + k ≡ l
    back l k h = omega arith

    pow_le_back : (a b : ℕ) → 2 ^ a ≤ 2 ^ b → a ≤ b
    pow_le_back a b h = le_of_lt_suc (lt_of_not-le (λ (g : suc b ≤ a). not-le_of_lt (pow-lt g) h))
      where
        le_of_lt_suc : {a b : ℕ} → a < suc b → a ≤ b
        le_of_lt_suc h = omega arith

-- ---- rounding a value of the format gives a value of the same size
kept : (f : Format) (s : Bool) (m : ℕ) (e : ℤ) → T (fits f (fin s m e)) → HasValue (round f s (m * up e) (down e)) s (m * up e) (down e)
kept f s zero e t =
    round_exact f s (0 * up e) (down e) 0 0 (down_pos e) (pow_pos (prec f)) (pow_pos (low f + suc (emax f)))
    (ap (λ (z : ℕ). z * 2 ^ low f) (zero-mul (up e)) ∙ zero-mul (2 ^ low f) ∙ sym (zero-mul (down e)))
kept f s (suc m) e t =
    let l = low f in
    let x = exponent 0 e l (fine f s m e t) in
    let j = x.0 in
    let eq : suc m * up e * 2 ^ l ≡ suc m * 2 ^ j * down e =
    mul_assoc (suc m) (up e) (2 ^ l) ∙ ap (λ (z : ℕ). suc m * (z * 2 ^ l)) (sym (one-mul (up e))) ∙ ap (λ (z : ℕ). suc m * z) x.1 ∙ sym (mul_assoc (suc m) (2 ^ j) (down e)) in
    let bound : suc m * 2 ^ j * down e < 2 ^ (l + suc (emax f)) * down e =
    lt_of_le_of_lt (le_of_eq (sym eq)) (lt_of_lt_of_le (mul-lt-mul_of_pos_right (below f s m e t) (pow_pos l))
    (le_of_eq (mul_right_comm (2 ^ suc (emax f)) (down e) (2 ^ l) ∙ ap (λ (z : ℕ). z * down e) (sym (pow-add 2 (suc (emax f)) l) ∙ ap (λ (z : ℕ). 2 ^ z) (swap (suc (emax f)) l))))) in
    round_exact f s (suc m * up e) (down e) (suc m) j (down_pos e) (short f s m e t) (lt_of_mul-lt-mul_right (down e) bound) eq
  where
    swap : (a b : ℕ) → a + b ≡ b + a
    swap a b = omega arith

-- ---- two values of the format with one sign and one size are the same value
pattern : Format → Bool → ℕ → ℕ
pattern f s n = cond s (top f) 0 + (size n - prec f) * hid f + n / 2 ^ (size n - prec f)

pattern_of : (f : Format) (x : Float) (s : Bool) (a c : ℕ) → 0 < c → HasValue x s a c → to_bits f x ≡ pattern f s (a * 2 ^ low f / c)
unfolding to_bits pattern
pattern_of f (fin t m e) s a c C v =
    ap (λ (b : Bool). pattern f b (m * up e * 2 ^ low f / down e)) v.0
    ∙ ap (pattern f s) (div_same (m * up e * 2 ^ low f) (down e) (a * 2 ^ low f) c (down_pos e) C
    (mul_right_comm (m * up e) (2 ^ low f) c ∙ ap (λ (z : ℕ). z * 2 ^ low f) v.1 ∙ mul_right_comm a (down e) (2 ^ low f)))
pattern_of f nan s a c C v = elim v [ ]
pattern_of f (inf _) s a c C v = elim v [ ]

same-value : (f : Format) (x y : Float) (s : Bool) (a c : ℕ) → 0 < c → T (fits f x) → T (fits f y) → HasValue x s a c → HasValue y s a c → x ≡ y
same-value f x y s a c C p q v w =
    sym (of_bits-to_bits f x p) ∙ ap (of_bits f) (pattern_of f x s a c C v ∙ sym (pattern_of f y s a c C w)) ∙ of_bits-to_bits f y q

pub round_self : (f : Format) (s : Bool) (m : ℕ) (e : ℤ) → T (fits f (fin s m e)) → round f s (m * up e) (down e) ≡ fin s m e
round_self f s m e t =
    same-value f (round f s (m * up e) (down e)) (fin s m e) s (m * up e) (down e) (down_pos e) (round-fits f s (m * up e) (down e)) t (kept f s m e t) (refl, refl)
