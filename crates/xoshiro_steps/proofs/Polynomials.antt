-- Polynomials with coefficients in ℕ, the lowest first: sums, products, the value at a number, and the value at the step. There a sum is an
-- xor and only the parity of a coefficient counts. Assumes nothing.
use mathlib.Core.Path.{◌≡◌, refl, sym, ap, ap₂, ◌∙◌}
use mathlib.Core.List.{List, [], ◌∷◌}
use Prim.Native.Nat.{ℕ, zero, suc, ◌+◌, ◌*◌, ◌%◌, ◌<◌}
use native.Mathlib.Nat.{add-mod, mod-lt, zero-lt-suc, add-zero, zero-add, zero-mul, suc-mul, add_comm, mul_comm, mul_assoc, mul-add, add-mul, mul-zero}
use native.Mathlib.Numerals.{add-one}
use native.Mathlib.Omega.{arith}
use Rattle.xoshiro_steps.specs.Xoshiro256pp.{State, step, plus, none, times}
use Rattle.xoshiro_steps.proofs.Linear.{plus_none, none-plus, plus_self, plus_exchange, step-none, step-plus}
use Rattle.xoshiro_steps.proofs.Linear.{Linear, linear_times, linear_step, times-plus, times_none}

abbrev pub sum : List ℕ → List ℕ → List ℕ
sum [] q = q
sum (a ∷ p) [] = a ∷ p
sum (a ∷ p) (b ∷ q) = (a + b) ∷ sum p q

abbrev scale : ℕ → List ℕ → List ℕ
scale c [] = []
scale c (a ∷ p) = c * a ∷ scale c p

abbrev pub product : List ℕ → List ℕ → List ℕ
product [] q = []
product (a ∷ p) q = sum (scale a q) (0 ∷ product p q)

-- ---- the value at a number. At a large one it holds the coefficients as its digits; at 1 it is their sum
abbrev pub value : ℕ → List ℕ → ℕ
value x [] = 0
value x (a ∷ p) = value x p * x + a

pub value_sum : (x : ℕ) (p q : List ℕ) → value x (sum p q) ≡ value x p + value x q
value_sum x [] q = sym (zero-add (value x q))
value_sum x (a ∷ p) [] = sym (add-zero (value x p * x + a))
value_sum x (a ∷ p) (b ∷ q) = rw (value_sum x p q, add-mul (value x p) (value x q) x) (omega arith)

value_scale : (x c : ℕ) (p : List ℕ) → value x (scale c p) ≡ c * value x p
value_scale x c [] = sym (mul-zero c)
value_scale x c (a ∷ p) = rw (value_scale x c p, mul-add c (value x p * x) a, mul_assoc c (value x p) x)

pub value_product : (x : ℕ) (p q : List ℕ) → value x (product p q) ≡ value x p * value x q
value_product x [] q = sym (zero-mul (value x q))
value_product x (a ∷ p) q =
    rw (
      value_sum x (scale a q) (0 ∷ product p q),
      value_scale x a q,
      value_product x p q,
      add-mul (value x p * x) a (value x q),
      add-zero (value x p * value x q * x),
      mul_assoc (value x p) (value x q) x,
      mul_assoc (value x p) x (value x q),
      mul_comm (value x q) x,
    )
    (add_comm (a * value x q) (value x p * (x * value x q)))

-- ---- the value at the step: each odd coefficient adds the state after so many steps
abbrev pub at_step : List ℕ → State → State
at_step [] s = none
at_step (c ∷ p) s = plus (times (c % 2) s) (at_step p (step s))

at_none : (p : List ℕ) → at_step p none ≡ none
at_none [] = refl
at_none (c ∷ p) = ap₂ plus (times_none (c % 2)) (ap (at_step p) step-none ∙ at_none p) ∙ none-plus none

at-plus : (p : List ℕ) (x y : State) → at_step p (plus x y) ≡ plus (at_step p x) (at_step p y)
at-plus [] x y = sym (none-plus none)
at-plus (c ∷ p) x y = ap₂ plus (times-plus (c % 2) x y) (ap (at_step p) (step-plus x y) ∙ at-plus p (step x) (step y)) ∙ plus_exchange _ _ _ _

at-step : (p : List ℕ) (x : State) → at_step p (step x) ≡ step (at_step p x)
at-step [] x = sym step-none
at-step (c ∷ p) x =
    ap₂ plus (sym (linear_times step linear_step (c % 2) x)) (at-step p (step x)) ∙ sym (step-plus (times (c % 2) x) (at_step p (step x)))

pub at_linear : (p : List ℕ) → Linear (at_step p)
at_linear p = record { zeroes = at_none p; adds = at-plus p; steps_with = at-step p }

-- parities of sums and products
times-two : (a b : ℕ) (s : State) → a < 2 → b < 2 → times ((a + b) % 2) s ≡ plus (times a s) (times b s)
unfolding times
times-two zero zero s h k = sym (none-plus none)
times-two zero (suc zero) s h k = sym (none-plus s)
times-two (suc zero) zero s h k = sym (plus_none s)
times-two (suc zero) (suc zero) s h k = sym (plus_self s)
times-two zero (suc (suc b)) s h k = absurd (omega arith)
times-two (suc zero) (suc (suc b)) s h k = absurd (omega arith)
times-two (suc (suc a)) b s h k = absurd (omega arith)

times_sum : (a b : ℕ) (s : State) → times ((a + b) % 2) s ≡ plus (times (a % 2) s) (times (b % 2) s)
times_sum a b s =
    ap (λ (n : ℕ). times n s) (add-mod a b 2) ∙ times-two (a % 2) (b % 2) s (mod-lt a (zero-lt-suc 1)) (mod-lt b (zero-lt-suc 1))

times_product : (a b : ℕ) (s : State) → times (a * b % 2) s ≡ times (a % 2) (times (b % 2) s)
unfolding times
times_product zero b s = ap (λ (n : ℕ). times (n % 2) s) (zero-mul b)
times_product (suc a) b s =
    ap (λ (n : ℕ). times (n % 2) s) (suc-mul a b)
    ∙ times_sum (a * b) b s
    ∙ ap (λ (x : State). plus x (times (b % 2) s)) (times_product a b s)
    ∙ sym (ap (λ (n : ℕ). times (n % 2) (times (b % 2) s)) (sym (add-one a)) ∙ times_sum a 1 (times (b % 2) s))

pub at_sum : (p q : List ℕ) (s : State) → at_step (sum p q) s ≡ plus (at_step p s) (at_step q s)
at_sum [] q s = sym (none-plus (at_step q s))
at_sum (a ∷ p) [] s = sym (plus_none (at_step (a ∷ p) s))
at_sum (a ∷ p) (b ∷ q) s = ap₂ plus (times_sum a b s) (at_sum p q (step s)) ∙ plus_exchange _ _ _ _

at_scale : (c : ℕ) (p : List ℕ) (s : State) → at_step (scale c p) s ≡ times (c % 2) (at_step p s)
at_scale c [] s = sym (times_none (c % 2))
at_scale c (a ∷ p) s = ap₂ plus (times_product c a s) (at_scale c p (step s)) ∙ sym (times-plus (c % 2) _ _)

-- a product's value is one value of the other
pub at_product : (p q : List ℕ) (s : State) → at_step (product p q) s ≡ at_step p (at_step q s)
unfolding times
at_product [] q s = refl
at_product (a ∷ p) q s =
    at_sum (scale a q) (0 ∷ product p q) s
    ∙ ap₂ plus (at_scale a q s) (none-plus _ ∙ at_product p q (step s) ∙ ap (at_step p) (at-step q s))
