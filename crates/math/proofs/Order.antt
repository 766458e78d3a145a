-- Negative values compare as their patterns do, the other way round. Assumes nothing.
use borrow.Author.Tests.{le-leb, lt-leb, lt-ltb, le-ltb, eq-eqb, ne_eqb}
use mathlib.Core.Bool.{Bool, true, false, ◌&&◌, ◌||◌}
use mathlib.Core.Logic.{◌⊎◌, inl, inr}
use mathlib.Core.Path.{◌≡◌, refl, sym, ap, subst, ◌∙◌}
use Prim.Native.Nat.{ℕ, zero, suc, ◌+◌, ◌-◌, ◌*◌, ◌/◌, ◌^◌, ◌≤◌, ◌<◌}
use native.Mathlib.Nat.{zero-add, lt_irrefl, add_assoc, add-mul, le_of_lt, mul-pos, not-suc-le-zero, zero-lt-suc, zero-mul, zero-div, mul-div_cancel, le_of_eq, le_trans, lt_of_lt_of_le, lt_of_le_of_lt, mul_assoc, mul_comm, mul_right_comm, mul-le-mul_right, le_of_mul-le-mul_right, le-div_iff_mul-le, eq-or-lt_of_le, one-mul}
use native.Mathlib.Decide.{dec_lt}
use native.Mathlib.Omega.{arith}
use lib.Dec.{T, eqb, leb, ltb}
use lib.IntN.{ℤ}
use lib.Pow.{pow-add, pow_pos}
use lib.Ieee.{Float, Format, binary32, binary64, nan, inf, fin, prec, low, hid, top, up, down, size, le, lt, eq, neg, ones, fits, is_nan, to_bits, of_bits}
use lib.Ieee.Bits.{of_bits-to_bits, to_bits-lt}
use lib.Ieee.Digits.{size-lt, size-le, size_reaches}
use lib.Ieee.Fits.{up_pos, down_pos, kept-lt, neg-fits}
use lib.Ieee.Nearest.{div_mono}
use Rattle.math.proofs.Values.{fine, exponent}

-- ---- the part of a pattern below the sign grows with the size in units of the smallest value
abbrev below_sign : Format → ℕ → ℕ
below_sign f n = (size n - prec f) * hid f + n / 2 ^ (size n - prec f)

size_mono : (n m : ℕ) → n ≤ m → size n ≤ size m
size_mono n m h = size-le n (size m) (lt_of_le_of_lt h (size-lt m))

hid_two : (f : Format) → 2 ^ prec f ≡ 2 * hid f
hid_two binary32 = refl
hid_two binary64 = refl

-- with digits dropped the leading one is there
leading : (f : Format) (n k : ℕ) → size n ≡ prec f + suc k → hid f ≤ n / 2 ^ suc k
leading f n k e =
    (le-div_iff_mul-le (pow_pos (suc k))).1
    (le_trans (le_of_eq (sym (pow-add 2 (prec f - 1) (suc k)))) (size_reaches n (prec f - 1 + suc k) (subst (λ (z : ℕ). prec f - 1 + suc k < z) (sym e) (short f k))))
  where
    short : (f : Format) (k : ℕ) → prec f - 1 + suc k < prec f + suc k
    short binary32 k = omega arith
    short binary64 k = omega arith

grows : (f : Format) (n m : ℕ) → n ≤ m → below_sign f n ≤ below_sign f m
grows f n m h = go (size n - prec f) (size m - prec f) refl refl (eq-or-lt_of_le (drop (size_mono n m h)))
  where
    drop : {a b : ℕ} → a ≤ b → a - prec f ≤ b - prec f
    drop l = omega arith

    whole : (a b k : ℕ) → a - b ≡ k → 0 < k → a ≡ b + k
    whole a b k e l = omega arith

    add_le : (c a b : ℕ) → a ≤ b → c + a ≤ c + b
    add_le c a b l = omega arith

    joined : (J K H x y P : ℕ) → x < P → P ≡ 2 * H → H ≤ y → J + 2 * H ≤ K + H → J + x ≤ K + y
    joined J K H x y P p q r l = omega arith

    spread : (j k H : ℕ) → j < k → j * H + 2 * H ≤ k * H + H
    spread j k H l = le_trans (le_of_eq (sym (add-mul j 2 H))) (le_trans (mul-le-mul_right H (next l)) (le_of_eq (add-mul k 1 H ∙ ap (λ (z : ℕ). k * H + z) (one-mul H))))
      where
        next : {j k : ℕ} → j < k → j + 2 ≤ k + 1
        next l = omega arith

    go : (j k : ℕ) → size n - prec f ≡ j → size m - prec f ≡ k → (j ≡ k) ⊎ (j < k) → j * hid f + n / 2 ^ j ≤ k * hid f + m / 2 ^ k
    go j k p q (inl e) =
        subst (λ (z : ℕ). j * hid f + n / 2 ^ j ≤ z * hid f + m / 2 ^ z) e
        (add_le (j * hid f) (n / 2 ^ j) (m / 2 ^ j) (div_mono n (2 ^ j) m (2 ^ j) (pow_pos j) (pow_pos j) (mul-le-mul_right (2 ^ j) h)))
    go j zero p q (inr l) = absurd (not-suc-le-zero l)
    go j (suc k) p q (inr l) =
        joined (j * hid f) (suc k * hid f) (hid f) (n / 2 ^ j) (m / 2 ^ suc k) (2 ^ prec f)
        (subst (λ (z : ℕ). n / 2 ^ z < 2 ^ prec f) p (kept-lt (prec f) n)) (hid_two f) (leading f m k (whole (size m) (prec f) (suc k) q (zero-lt-suc k))) (spread j (suc k) (hid f) l)

-- ---- the size of a value of the format is a whole number of units
abbrev units : Format → ℕ → ℤ → ℕ
units f m e = m * up e * 2 ^ low f / down e

exact : (f : Format) (s : Bool) (m : ℕ) (e : ℤ) → T (fits f (fin s m e)) → m * up e * 2 ^ low f ≡ units f m e * down e
exact f s zero e t =
    ap (λ (z : ℕ). z * 2 ^ low f) (zero-mul (up e)) ∙ zero-mul (2 ^ low f) ∙ sym (zero-mul (down e))
    ∙ ap (λ (z : ℕ). z * down e) (sym (zero-div (down e)) ∙ ap (λ (z : ℕ). z / down e) (sym (zero-mul (2 ^ low f)) ∙ ap (λ (z : ℕ). z * 2 ^ low f) (sym (zero-mul (up e)))))
exact f s (suc m) e t =
    let x = exponent 0 e (low f) (fine f s m e t) in
    let w : suc m * up e * 2 ^ low f ≡ suc m * 2 ^ x.0 * down e =
    mul_assoc (suc m) (up e) (2 ^ low f) ∙ ap (λ (z : ℕ). suc m * (z * 2 ^ low f)) (sym (one-mul (up e))) ∙ ap (λ (z : ℕ). suc m * z) x.1 ∙ sym (mul_assoc (suc m) (2 ^ x.0) (down e)) in
    w ∙ ap (λ (z : ℕ). z * down e) (sym (ap (λ (z : ℕ). z / down e) w ∙ mul-div_cancel (suc m * 2 ^ x.0) (down_pos e)))

-- ---- two negative values
numerator : Float → ℕ
numerator nan = 0
numerator (inf s) = 0
numerator (fin s m e) = m * up e

denominator : Float → ℕ
denominator nan = 0
denominator (inf s) = 0
denominator (fin s m e) = down e

-- cross products compare as whole numbers of units do
crossed : (f : Format) (s t : Bool) (m n : ℕ) (e d : ℤ) → T (fits f (fin s m e)) → T (fits f (fin t n d)) → n * up d * down e ≤ m * up e * down d → units f n d ≤ units f m e
crossed f s t m n e d p q h =
    le_of_mul-le-mul_right
    (le_trans (le_of_eq (ap (λ (z : ℕ). units f n d * z) (mul_comm (down e) (down d)) ∙ weighed n d e (exact f t n d q)))
    (le_trans (mul-le-mul_right (2 ^ low f) h) (le_of_eq (sym (weighed m e d (exact f s m e p))))))
    (mul-pos (down_pos e) (down_pos d))
  where
    weighed : (m : ℕ) (e d : ℤ) → m * up e * 2 ^ low f ≡ units f m e * down e → units f m e * (down e * down d) ≡ m * up e * down d * 2 ^ low f
    weighed m e d x = sym (mul_assoc (units f m e) (down e) (down d)) ∙ ap (λ (z : ℕ). z * down d) (sym x) ∙ mul_right_comm (m * up e) (2 ^ low f) (down d)

pattern : (f : Format) (m : ℕ) (e : ℤ) → to_bits f (fin true m e) ≡ top f + below_sign f (units f m e)
unfolding to_bits
pattern f m e = add_assoc (top f) ((size (units f m e) - prec f) * hid f) (units f m e / 2 ^ (size (units f m e) - prec f))

-- a size that is not larger has a pattern that is not larger, and a smaller one a smaller pattern
not_larger : (f : Format) (m n : ℕ) (e d : ℤ) → T (fits f (fin true m e)) → T (fits f (fin true n d)) → m * up e * down d ≤ n * up d * down e → to_bits f (fin true m e) ≤ to_bits f (fin true n d)
not_larger f m n e d p q h =
    subst (λ (z : ℕ). z ≤ to_bits f (fin true n d)) (sym (pattern f m e)) (le_trans (add_le (top f) (grows f (units f m e) (units f n d) (crossed f true true n m d e q p h))) (le_of_eq (sym (pattern f n d))))
  where
    add_le : (c : ℕ) {a b : ℕ} → a ≤ b → c + a ≤ c + b
    add_le c l = omega arith

smaller : (f : Format) (m n : ℕ) (e d : ℤ) → T (fits f (fin true m e)) → T (fits f (fin true n d)) → m * up e * down d < n * up d * down e → to_bits f (fin true m e) < to_bits f (fin true n d)
unfolding numerator denominator
smaller f m n e d p q h = go (eq-or-lt_of_le (not_larger f m n e d p q (le_of_lt h)))
  where
    go : (to_bits f (fin true m e) ≡ to_bits f (fin true n d)) ⊎ (to_bits f (fin true m e) < to_bits f (fin true n d)) → to_bits f (fin true m e) < to_bits f (fin true n d)
    go (inr l) = l
    go (inl e') = absurd (differ (sym (of_bits-to_bits f (fin true m e) p) ∙ ap (of_bits f) e' ∙ of_bits-to_bits f (fin true n d) q))
      where
        differ : fin true m e ≡ fin true n d → ⊥
        differ x =
            lt_irrefl (n * up d * down e)
            (subst (λ (z : ℕ). z < n * up d * down e) (ap (λ (z : ℕ). z * down d) (ap numerator x) ∙ ap (λ (z : ℕ). n * up d * z) (sym (ap denominator x))) h)

-- ---- comparison of a value with a negative number
tested : (a b : ℕ) → ltb b a || (eqb a b && true) ≡ leb b a
tested a b = go (dec_lt a b)
  where
    go : Dec (a < b) → ltb b a || (eqb a b && true) ≡ leb b a
    go (yes l) = simp (le-ltb b a (le_of_lt l), ne_eqb a b (λ (e : a ≡ b). lt_irrefl b (subst (λ (z : ℕ). z < b) e l)), lt-leb b a l)
    go (no l) = at (eq-or-lt_of_le (le_of_not_lt l)) ∙ sym (le-leb b a (le_of_not_lt l))
      where
        le_of_not_lt : ¬ (a < b) → b ≤ a
        le_of_not_lt g = omega arith

        at : (b ≡ a) ⊎ (b < a) → ltb b a || (eqb a b && true) ≡ true
        at (inl e) = simp (le-ltb b a (le_of_eq (sym e)), eq-eqb a b (sym e))
        at (inr g) = simp (lt-ltb b a g)

negative_le : (f : Format) (m n : ℕ) (e d : ℤ) → T (fits f (fin true m e)) → T (fits f (fin true n d)) → le (fin true m e) (fin true n d) ≡ leb (to_bits f (fin true n d)) (to_bits f (fin true m e))
unfolding le lt eq
negative_le f m n e d p q = tested (m * up e * down d) (n * up d * down e) ∙ go (dec_lt (m * up e * down d) (n * up d * down e))
  where
    go : Dec (m * up e * down d < n * up d * down e) → leb (n * up d * down e) (m * up e * down d) ≡ leb (to_bits f (fin true n d)) (to_bits f (fin true m e))
    go (yes l) = lt-leb (n * up d * down e) (m * up e * down d) l ∙ sym (lt-leb (to_bits f (fin true n d)) (to_bits f (fin true m e)) (smaller f m n e d p q l))
    go (no l) =
        let h = le_of_not_lt l in
        le-leb (n * up d * down e) (m * up e * down d) h ∙ sym (le-leb (to_bits f (fin true n d)) (to_bits f (fin true m e)) (not_larger f n m d e q p h))
      where
        le_of_not_lt : {a b : ℕ} → ¬ (a < b) → b ≤ a
        le_of_not_lt g = omega arith

-- without a sign a pattern is below the sign's bit
positive_lt : (f : Format) (m : ℕ) (e : ℤ) → T (fits f (fin false m e)) → to_bits f (fin false m e) < top f
unfolding to_bits neg
positive_lt f m e h = half (top f) ((size (units f m e) - prec f) * hid f) (units f m e / 2 ^ (size (units f m e) - prec f)) (to_bits-lt f (fin true m e) (neg-fits f (fin false m e) h))
  where
    half : (t a b : ℕ) → t + a + b < 2 * t → 0 + a + b < t
    half t a b l = omega arith

infinite : (f : Format) → (to_bits f (inf true) ≡ top f + ones f * hid f) × (to_bits f (inf false) ≡ ones f * hid f)
unfolding to_bits
infinite f = (refl, zero-add (ones f * hid f))

-- a positive size is no zero's
differ : (a b : ℕ) → 0 < b → false || (eqb a b && (false || eqb a 0)) ≡ false
differ zero b h = ap (λ (t : Bool). false || (t && (false || eqb zero 0))) (ne_eqb zero b (λ (e : 0 ≡ b). lt_irrefl b (subst (λ (z : ℕ). z < b) e h)))
differ (suc a) b h = ap (λ (t : Bool). false || (eqb (suc a) b && (false || t))) (ne_eqb (suc a) 0 (λ (e : suc a ≡ 0). absurd (omega arith))) ∙ and_false (eqb (suc a) b)
  where
    and_false : (x : Bool) → x && false ≡ false
    and_false true = refl
    and_false false = refl

-- C is a negative number, and so its pattern is above the sign's bit, and below that of the negative infinity
module _ (f : Format) (n : ℕ) (d : ℤ) (q : T (fits f (fin true (suc n) d))) (l : top f ≤ to_bits f (fin true (suc n) d)) (u : to_bits f (fin true (suc n) d) < top f + ones f * hid f) (w : ones f * hid f < top f) where
  abbrev C : Float
  C = fin true (suc n) d

  size_pos : (e : ℤ) → 0 < suc n * up d * down e
  size_pos e = mul-pos (mul-pos (zero-lt-suc n) (up_pos d)) (down_pos e)

  pub at_most : (v : Float) → T (fits f v) → is_nan v ≡ false → le v C ≡ leb (to_bits f C) (to_bits f v)
  unfolding le lt eq is_nan
  at_most nan h g = absurd (subst T g tt)
  at_most (inf true) h g = sym (le-leb (to_bits f C) (to_bits f (inf true)) (le_trans (le_of_lt u) (le_of_eq (sym (infinite f).0))))
  at_most (inf false) h g = sym (lt-leb (to_bits f C) (to_bits f (inf false)) (lt_of_le_of_lt (le_of_eq (infinite f).1) (lt_of_lt_of_le w l)))
  at_most (fin false m e) h g =
      differ (m * up e * down d) (suc n * up d * down e) (size_pos e) ∙ sym (lt-leb (to_bits f C) (to_bits f (fin false m e)) (lt_of_lt_of_le (positive_lt f m e h) l))
  at_most (fin true m e) h g = negative_le f m (suc n) e d h q

  pub at_least : (v : Float) → T (fits f v) → is_nan v ≡ false → le C v ≡ leb (to_bits f v) (to_bits f C)
  unfolding le lt eq is_nan
  at_least nan h g = absurd (subst T g tt)
  at_least (inf true) h g = sym (lt-leb (to_bits f (inf true)) (to_bits f C) (lt_of_lt_of_le u (le_of_eq (sym (infinite f).0))))
  at_least (inf false) h g = sym (le-leb (to_bits f (inf false)) (to_bits f C) (le_trans (le_of_eq (infinite f).1) (le_of_lt (lt_of_lt_of_le w l))))
  at_least (fin false m e) h g =
      ap (λ (t : Bool). t || eq C (fin false m e)) (lt-ltb 0 (suc n * up d * down e + m * up e * down d) (more (size_pos e) (m * up e * down d)))
      ∙ sym (le-leb (to_bits f (fin false m e)) (to_bits f C) (le_trans (le_of_lt (positive_lt f m e h)) l))
    where
      more : {a : ℕ} → 0 < a → (b : ℕ) → 0 < a + b
      more x b = omega arith
  at_least (fin true m e) h g = negative_le f (suc n) m d e q h
