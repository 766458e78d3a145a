-- What a fraction n / 2^k between 0 and 1 passes: comparisons with 0 and 1, and the tests on arguments. Assumes nothing.
use mathlib.Core.Path.{refl, sym, ap, ◌∙◌, subst}
use Prim.Native.Nat.{ℕ, ◌-◌, ◌*◌, ◌^◌, ◌≤◌, ◌<◌}
use native.Mathlib.Nat.{zero-mul, mul-pos}
use native.Mathlib.Nat.{mul-one, one-mul, mul_comm, mul-le-mul_right, mul-lt-mul_of_pos_right, le_trans, le_of_eq, lt_of_lt_of_le, lt_of_mul-lt-mul_right}
use native.Mathlib.Omega.{arith}
use mathlib.Core.Bool.{true, false, true≢false}
use lib.Dec.{T, lt→ltb, lit<}
use lib.Pow.{pow_pos, pow_mono}
use lib.Ieee.{Float, fin, Format, binary32, binary64, up, down, le, lt, emax, inf, nan}
use lib.Ieee.Fits.{and_i, down_pos}
use lib.Ieee.Exact.{HasValue}
use lib.Ieee.Order.{le_of_values}
use Rattle.floats.specs.patterns.Domains.{positive_normal, is_u1, is_u2}
use Rattle.floats.specs.patterns.Numbers.{zero, one, least, most}

least-value : (f : Format) → HasValue (least f) false 1 (2 ^ (emax f - 1))
least-value binary32 = (refl, refl)
least-value binary64 = (refl, refl)

-- the largest value is a whole number
largest : Format → ℕ
largest binary32 = (2 ^ 24 - 1) * 2 ^ 104
largest binary64 = (2 ^ 53 - 1) * 2 ^ 971

most-value : (f : Format) → HasValue (most f) false (largest f) 1
unfolding largest
most-value binary32 = (refl, refl)
most-value binary64 = (refl, refl)

largest_pos : (f : Format) → 0 < largest f
unfolding largest
largest_pos binary32 = lit< tt
largest_pos binary64 = lit< tt

-- a fraction above 0, at most 1, is a positive normal
pub normal_passes : (f : Format) (x : Float) (n k : ℕ) → 0 < n → n ≤ 2 ^ k → k ≤ emax f - 1 → HasValue x false n (2 ^ k)
    → T (positive_normal f x)
unfolding positive_normal
normal_passes f x n k p h l v =
    let K = pow_pos k in
    let deep : 1 * 2 ^ k ≤ n * 2 ^ (emax f - 1) =
    le_trans (le_of_eq (one-mul (2 ^ k)))
    (le_trans (pow_mono l) (le_trans (le_of_eq (sym (one-mul (2 ^ (emax f - 1))))) (mul-le-mul_right (2 ^ (emax f - 1)) p))) in
    let small : n * 1 ≤ largest f * 2 ^ k =
    le_trans (le_of_eq (mul-one n)) (le_trans h (le_trans (le_of_eq (sym (one-mul (2 ^ k)))) (mul-le-mul_right (2 ^ k) (largest_pos f)))) in
    and_i (le (least f) x) (le x (most f))
    (le_of_values (least f) x 1 (2 ^ (emax f - 1)) n (2 ^ k) (pow_pos (emax f - 1)) K (least-value f) v deep)
    (le_of_values x (most f) n (2 ^ k) (largest f) 1 K (pow_pos 0) v (most-value f) small)

-- and in (0, 1]
pub first_passes : (f : Format) (x : Float) (n k : ℕ) → 0 < n → n ≤ 2 ^ k → k ≤ emax f - 1 → HasValue x false n (2 ^ k) → T (is_u1 f x)
unfolding is_u1
first_passes f x n k p h l v =
    and_i (positive_normal f x) (le x one) (normal_passes f x n k p h l v)
    (le_of_values x one n (2 ^ k) 1 1 (pow_pos k) (pow_pos 0) v (refl, refl) (le_trans (le_of_eq (mul-one n)) (le_trans h (le_of_eq (sym (one-mul (2 ^ k)))))))

-- a fraction above 0 is greater than 0
pub over_zero : (x : Float) (n k : ℕ) → 0 < n → HasValue x false n (2 ^ k) → T (lt zero x)
unfolding lt
over_zero (fin false m e) n k p v =
    let some : 0 < m * up e * 2 ^ k = subst (λ (z : ℕ). 0 < z) (sym v.1) (mul-pos p (down_pos e)) in
    let over : 0 < m * up e = lt_of_mul-lt-mul_right (2 ^ k) (subst (λ (z : ℕ). z < m * up e * 2 ^ k) (sym (zero-mul (2 ^ k))) some) in
    lt→ltb (0 * down e) (m * up e * 1)
    (subst (λ (z : ℕ). z < m * up e * 1) (sym (zero-mul (down e))) (subst (λ (z : ℕ). 0 < z) (sym (mul-one (m * up e))) over))
over_zero (fin true m e) n k p v = absurd (true≢false v.0)
over_zero nan n k p v = elim v [ ]
over_zero (inf _) n k p v = elim v [ ]

-- a fraction below 1 is less than 1
pub under_one : (x : Float) (n k : ℕ) → n < 2 ^ k → HasValue x false n (2 ^ k) → T (lt x one)
unfolding lt
under_one (fin false m e) n k h v =
    lt→ltb (m * up e * 1) (1 * 1 * down e)
    (lt_of_mul-lt-mul_right (2 ^ k) (subst (λ (z : ℕ). z < 1 * 1 * down e * 2 ^ k) (sym (ap (λ (z : ℕ). z * 2 ^ k) (mul-one (m * up e)) ∙ v.1))
    (lt_of_lt_of_le (mul-lt-mul_of_pos_right h (down_pos e)) (le_of_eq (mul_comm (2 ^ k) (down e) ∙ ap (λ (z : ℕ). z * 2 ^ k) (sym (one-mul (down e))))))))
under_one (fin true m e) n k h v = absurd (true≢false v.0)
under_one nan n k h v = elim v [ ]
under_one (inf _) n k h v = elim v [ ]

-- a fraction below 1 is in [0, 1)
pub second_passes : (x : Float) (n k : ℕ) → n < 2 ^ k → HasValue x false n (2 ^ k) → T (is_u2 x)
unfolding is_u2
second_passes x n k h v =
    and_i (le zero x) (lt x one)
    (le_of_values zero x 0 1 n (2 ^ k) (pow_pos 0) (pow_pos k) (refl, refl) v (omega arith))
    (under_one x n k h v)
