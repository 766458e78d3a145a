-- A jump's sum is the value of its polynomial at the step, so JUMP and LONG_JUMP are 2 ^ 128 and 2 ^ 192 steps. Assumes nothing.
use mathlib.Core.Bool.{Bool}
use mathlib.Core.List.{List}
use mathlib.Core.Path.{◌≡◌, sym, ap, ◌∙◌}
use Prim.Native.Nat.{ℕ, zero, suc, ◌+◌, ◌-◌, ◌*◌, ◌/◌, ◌%◌, ◌^◌, ◌≤◌, ◌<◌}
use native.Mathlib.Nat.{mod-mod, add-zero, zero-add, div-one}
use native.Mathlib.Numerals.{add-one}
use native.Mathlib.Omega.{arith}
use lib.Dec.{T, eqb, eqb→eq, lit<, lit≤}
use lib.ListN.{length, get_or}
use lib.Pow.{field, mod-mod-pow, shr-shr}
use Rattle.base.specs.Every.{every}
use Rattle.base.specs.Iterate.{iterate}
use Rattle.base.specs.Table.{table}
use Rattle.base.proofs.Every.{every-table}
use Rattle.xoshiro_steps.specs.Claims.{Words}
use Rattle.xoshiro_steps.specs.Xoshiro256pp.{State, step, steps, plus, none, times, bit_of, summed, jumped, jump_poly, long_jump_poly}
use Rattle.xoshiro_steps.proofs.Linear.{plus_none, none-plus, plus_assoc}
use Rattle.xoshiro_steps.proofs.Polynomials.{value, at_step}
use Rattle.xoshiro_steps.proofs.Squares.{polynomial, squares}
use Rattle.xoshiro_steps.proofs.Squaring.{parities, parities_total, at_front, Linked, linked_steps}
use Rattle.xoshiro_steps.proofs.Zero.{coefficients, gone_all}

-- ---- the chain, from x
chained : Linked (2 ^ 20) 512 256 (coefficients polynomial) (coefficients 2) squares
unfolding Linked
chained = tt

room : 512 * 512 + 512 * value 1 (coefficients polynomial) < 2 ^ 20
room = lit< tt

first : (s : State) → at_step (coefficients 2) s ≡ steps (2 ^ 0) s
unfolding iterate times
first s = none-plus (plus (step s) none) ∙ plus_none (step s)

-- the remainder of entry j is 2 ^ (j + 1) steps
power : (j : ℕ) → j < length squares → (s : State) → Words s → at_step (parities 2 256 (get_or squares j (0, 0)).1) s ≡ steps (2 ^ suc j) s
power j h s w =
    linked_steps (2 ^ 20) 512 (coefficients polynomial) room 256 s (gone_all s w) squares (coefficients 2) chained (parities_total 2 512 2) 0 (first s) j h
    ∙ ap (λ (k : ℕ). steps (2 ^ k) s) (zero-add (suc j))

-- ---- the sum that a jump makes, where the bits of the polynomial's words are those of one number
module _ (p : List ℕ) (n : ℕ) (bits : (k : ℕ) → k < 256 → bit_of p k ≡ n / 2 ^ k % 2) (s : State) where
  -- k bits in the sum, and m left of the number
  summed_on : (m k : ℕ) → k + m ≤ 256 → plus (summed p k s) (at_step (parities 2 m (n / 2 ^ k)) (steps k s)) ≡ summed p (k + m) s
  unfolding summed iterate
  summed_on zero k h = plus_none (summed p k s) ∙ ap (λ (j : ℕ). summed p j s) (sym (add-zero k))
  summed_on (suc m) k h =
      let b : ℕ = n / 2 ^ k in
      let rest : List ℕ = parities 2 m (b / 2) in
      let q : b / 2 ≡ n / 2 ^ suc k = shr-shr n k 1 ∙ ap (λ (j : ℕ). n / 2 ^ j) (add-one k) in
      let e : suc k + m ≡ k + suc m = omega arith in
      ap (plus (summed p k s)) (at_front (b % 2 % 2) rest (steps k s))
      ∙ sym (plus_assoc (summed p k s) (times (b % 2 % 2 % 2) (steps k s)) (at_step rest (steps (suc k) s)))
      ∙ (λ i. plus (plus (summed p k s) (times ((mod-mod (b % 2) 2 ∙ mod-mod b 2 ∙ sym (bits k (omega arith))) i) (steps k s))) (at_step (parities 2 m (q i)) (steps (suc k) s)))
      ∙ summed_on m (suc k) (omega arith)
      ∙ ap (λ (j : ℕ). summed p j s) e

  jumped-at : jumped p s ≡ at_step (parities 2 256 n) s
  unfolding jumped summed iterate
  jumped-at = sym (summed_on 256 0 (omega arith)) ∙ none-plus _ ∙ ap (λ (x : ℕ). at_step (parities 2 256 x) s) (div-one n)

-- computed: the words are those of one number
unfoldable pub agree : List ℕ → ℕ → Bool
agree p n = every (λ i. eqb (get_or p i 0) (n / 2 ^ (64 * i) % 2 ^ 64)) (table 4 (λ i. i))

-- bit b of a number's lowest word is bit b of the number
word_bit : (x b : ℕ) → b < 64 → x % 2 ^ 64 / 2 ^ b % 2 ≡ x / 2 ^ b % 2
word_bit x b h =
    let e : 64 ≡ 63 - b + 1 + b = omega arith in
    ap (λ (k : ℕ). x % 2 ^ k / 2 ^ b % 2) e ∙ ap (λ (y : ℕ). y % 2) (field x (63 - b + 1) b) ∙ mod-mod-pow (x / 2 ^ b) (63 - b) 1

agree_bits : (p : List ℕ) (n : ℕ) → T (agree p n) → (k : ℕ) → k < 256 → bit_of p k ≡ n / 2 ^ k % 2
unfolding agree bit_of
agree_bits p n t k h =
    let same = every-table (λ i. eqb (get_or p i 0) (n / 2 ^ (64 * i) % 2 ^ 64)) 4 (λ i. i) t (k / 64) (omega arith) in
    let whole : 64 * (k / 64) + k % 64 ≡ k = omega arith in
    ap (λ (x : ℕ). x / 2 ^ (k % 64) % 2) (eqb→eq (get_or p (k / 64) 0) _ same)
    ∙ word_bit (n / 2 ^ (64 * (k / 64))) (k % 64) (omega arith)
    ∙ ap (λ (x : ℕ). x % 2) (shr-shr n (64 * (k / 64)) (k % 64))
    ∙ ap (λ (j : ℕ). n / 2 ^ j % 2) whole

-- ---- the polynomial of 2 ^ k steps, and words that are its words
abbrev power_of : ℕ → ℕ
power_of zero = 2
power_of (suc j) = (get_or squares j (0, 0)).1

unfoldable pub is_power : ℕ → List ℕ → Bool
is_power k p = agree p (power_of k)

pub power-is : (k : ℕ) → k ≤ 192 → (p : List ℕ) → T (is_power k p) → (s : State) → Words s → jumped p s ≡ steps (2 ^ k) s
unfolding is_power
power-is zero h p t s w = jumped-at p 2 (agree_bits p 2 t) s ∙ first s
power-is (suc j) h p t s w = jumped-at p _ (agree_bits p _ t) s ∙ power j h s w

-- ---- JUMP is x ^ (2 ^ 128), and LONG_JUMP x ^ (2 ^ 192)
jump_bits : T (is_power 128 jump_poly)
unfolding is_power agree table
jump_bits = tt

long-bits : T (is_power 192 long_jump_poly)
unfolding is_power agree table
long-bits = tt

pub jump_distance : (s : State) → Words s → jumped jump_poly s ≡ steps (2 ^ 128) s
jump_distance = power-is 128 (lit≤ tt) jump_poly jump_bits

pub long_jump_distance : (s : State) → Words s → jumped long_jump_poly s ≡ steps (2 ^ 192) s
long_jump_distance = power-is 192 (lit≤ tt) long_jump_poly long-bits
