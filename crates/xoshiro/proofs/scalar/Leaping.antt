-- Jumps by the powers that the set bits of a number select are as many steps, or jumps, as the number says. Assumes nothing.
use Rattle.std.proofs.Common.{◌≡◌, ℕ, ◌+◌, ◌*◌, ◌/◌, ◌%◌, ◌^◌, ◌<◌, ◌≤◌, List, [], ◌∷◌, length, get_or, sym, ap, ◌∙◌, ap₂, mod-lt, mod-eq_of_lt, zero-lt-suc, mul_comm, add-mul, add_comm, one-mul, zero-add, zero-mul, arith, pow-add}
use native.Mathlib.Nat.{mod-one}
use lib.Pow.{mod-pow-add}
use Rattle.base.specs.Iterate.{iterate}
use Rattle.base.proofs.Iterate.{iterate-then}
use Rattle.base.proofs.Quad.{list_four}
use Rattle.xoshiro_steps.specs.Claims.{Words}
use Rattle.xoshiro_steps.specs.Xoshiro256pp.{step, steps, jumped}
use Rattle.xoshiro_steps.proofs.Theorems.{jumps_are}
use Rattle.xoshiro_steps.proofs.Widths.{words-steps}
use Rattle.xoshiro.specs.powers.Powers.{entry_of, Powers}
use Rattle.xoshiro.specs.scalar.Calls.{state_of, generator, jumped_by, jumps_made, steps_made}
use Rattle.xoshiro.specs.declared.scalar.Jump.{Jump}
use Rattle.xoshiro.specs.declared.scalar.Xoshiro256pp.{Xoshiro256pp}

-- ---- a generator whose words were read one by one
pub four_known : (g : Xoshiro256pp) {a b c d : ℕ} → length g.s ≡ 4
    → (a ≡ get_or g.s 0 0) × (a < 2 ^ 64)
    → (b ≡ get_or g.s 1 0) × (b < 2 ^ 64)
    → (c ≡ get_or g.s 2 0) × (c < 2 ^ 64)
    → (d ≡ get_or g.s 3 0) × (d < 2 ^ 64)
    → (◌≡◌ {A = Xoshiro256pp} (record { s = a ∷ b ∷ c ∷ d ∷ [] }) g) × Words (record { w0 = a; w1 = b; w2 = c; w3 = d })
four_known g l p q r t = (
  ap (λ (l : List ℕ). record { s = l }) ((λ i. p.0 i ∷ q.0 i ∷ r.0 i ∷ t.0 i ∷ []) ∙ list_four 0 g.s l),
  record { w0 = p.1; w1 = q.1; w2 = r.1; w3 = t.1 },
)

-- ---- bit j of a number on top of the bits below it, each worth 2 ^ e
low_bits : (n j : ℕ) → n % 2 ^ (j + 1) ≡ n / 2 ^ j % 2 * 2 ^ j + n % 2 ^ j
low_bits n j = ap (λ (k : ℕ). n % 2 ^ k) (add_comm j 1) ∙ mod-pow-add n 1 j

bit_set : (n j e : ℕ) → n / 2 ^ j % 2 ≡ 1 → n % 2 ^ j * 2 ^ e + 2 ^ (e + j) ≡ n % 2 ^ (j + 1) * 2 ^ e
bit_set n j e one =
    ap₂ ◌+◌ (λ i. n % 2 ^ j * 2 ^ e) (pow-add 2 e j ∙ mul_comm (2 ^ e) (2 ^ j))
    ∙ add_comm (n % 2 ^ j * 2 ^ e) (2 ^ j * 2 ^ e)
    ∙ sym (add-mul (2 ^ j) (n % 2 ^ j) (2 ^ e))
    ∙ ap (λ (x : ℕ). x * 2 ^ e) (sym sum)
  where
    sum : n % 2 ^ (j + 1) ≡ 2 ^ j + n % 2 ^ j
    sum = low_bits n j ∙ ap (λ (x : ℕ). x * 2 ^ j + n % 2 ^ j) one ∙ ap (λ (x : ℕ). x + n % 2 ^ j) (one-mul (2 ^ j))

bit_clear : (n j : ℕ) → n / 2 ^ j % 2 ≡ 0 → n % 2 ^ j ≡ n % 2 ^ (j + 1)
bit_clear n j z =
    sym (low_bits n j ∙ ap (λ (x : ℕ). x * 2 ^ j + n % 2 ^ j) z ∙ ap (λ (x : ℕ). x + n % 2 ^ j) (zero-mul (2 ^ j)) ∙ zero-add (n % 2 ^ j))

-- ---- the loop: the jumps of the lowest j bits are made
pub record Leapt (table : List ℕ) (n : ℕ) (g at : Xoshiro256pp) (j : ℕ) : Type 0 where
  pub upto : j ≤ 64
  pub there : (e : ℕ) → Powers e table → at ≡ steps_made (n % 2 ^ j * 2 ^ e) g

pub leapt_none : {table : List ℕ} {n : ℕ} {g : Xoshiro256pp} → length g.s ≡ 4 → Leapt table n g g 0
unfolding iterate
leapt_none {table} {n} {g} long =
    record {
      upto = omega arith;
      there = λ k p.
          ap (λ (l : List ℕ). record { s = l }) (sym (list_four 0 g.s long))
          ∙ ap (λ (m : ℕ). steps_made m g) (sym (ap (λ (m : ℕ). m * 2 ^ k) (mod-one n) ∙ zero-mul (2 ^ k)));
    }

module _ {table : List ℕ} {n : ℕ} {g at : Xoshiro256pp} {j : ℕ} (l : Leapt table n g at j) (h : j < 64) where
  -- the bit as the loop reads it
  bit_at : {b : ℕ} → b ≡ n / 2 ^ (j % 64) % 2 → b ≡ n / 2 ^ j % 2
  bit_at e = e ∙ ap (λ (k : ℕ). n / 2 ^ k % 2) (mod-eq_of_lt h)

  pub leapt_set : Words (state_of g) → {b : ℕ} → b ≡ n / 2 ^ (j % 64) % 2 → (b ≡ 0 → ⊥)
      → {next : Jump} → next ≡ jumped_by (entry_of table j) at
      → {at' : Xoshiro256pp} → at' ≡ next.rng → Leapt table n g at' (j + 1)
  unfolding jumped_by Powers
  leapt_set w eb set en ea =
      let below : n / 2 ^ j % 2 < 2 = mod-lt (n / 2 ^ j) (zero-lt-suc 1) in
      let same = bit_at eb in
      let one : n / 2 ^ j % 2 ≡ 1 = omega (arith, same, set) in
      record {
        upto = omega arith;
        there = λ e p.
            let m = n % 2 ^ j * 2 ^ e in
            ea ∙ ap (λ (x : Jump). x.rng) en
            ∙ ap (λ (x : Xoshiro256pp). generator (jumped (entry_of table j) (state_of x))) (l.there e p)
            ∙ ap generator (p j h (steps m (state_of g)) (words-steps m (state_of g) w) ∙ sym (iterate-then step m (2 ^ (e + j)) (state_of g)))
            ∙ ap (λ (k : ℕ). steps_made k g) (bit_set n j e one);
      }

  pub leapt_clear : {b : ℕ} → b ≡ n / 2 ^ (j % 64) % 2 → b ≡ 0 → {at' : Xoshiro256pp} → at' ≡ at → Leapt table n g at' (j + 1)
  leapt_clear eb z ea =
      record {
        upto = omega arith;
        there = λ e p. ea ∙ l.there e p ∙ ap (λ (k : ℕ). steps_made (k * 2 ^ e) g) (bit_clear n j (sym (bit_at eb) ∙ z));
      }

pub leapt_end : {table : List ℕ} {n : ℕ} {g at : Xoshiro256pp} {j : ℕ} → n < 2 ^ 64 → 64 ≤ j → Leapt table n g at j
    → (e : ℕ) → Powers e table → at ≡ steps_made (n * 2 ^ e) g
leapt_end {table} {n} {g} {at} {j} h k l e p =
    let u = l.upto in
    let all : j ≡ 64 = omega arith in
    l.there e p ∙ ap (λ (x : ℕ). steps_made (x * 2 ^ e) g) (ap (λ (x : ℕ). n % 2 ^ x) all ∙ mod-eq_of_lt h)

-- ---- n steps, and n jumps, each 2 ^ 128 of them
pub steps_by : (n : ℕ) (g : Xoshiro256pp) {r : Xoshiro256pp} → r ≡ steps_made (n * 2 ^ 0) g → r ≡ steps_made n g
steps_by n g e = e ∙ ap (λ (m : ℕ). steps_made m g) (one n)
  where
    one : (n : ℕ) → n * 2 ^ 0 ≡ n
    one n = omega arith

pub jumps_by : (n : ℕ) (g : Xoshiro256pp) {r : Xoshiro256pp} → Words (state_of g) → r ≡ steps_made (n * 2 ^ 128) g → r ≡ jumps_made n g
jumps_by n g w e = e ∙ ap generator (sym (jumps_are n (state_of g) w))
