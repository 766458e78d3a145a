-- The bits of a polynomial: one more in the sum, the highest set one, and the sum up to it. Assumes nothing.
use mathlib.Core.Bool.{Bool, cond}
use mathlib.Core.List.{List, [], ◌∷◌}
use mathlib.Core.Path.{◌≡◌, refl, sym, ap, ap₂, ◌∙◌}
use Prim.Native.Nat.{ℕ, zero, suc, ◌+◌, ◌-◌, ◌*◌, ◌/◌, ◌%◌, ◌^◌, ◌≤◌, ◌<◌}
use native.Mathlib.Nat.{not-suc-le-zero, lt_of_lt_of_le, one-mul, div-eq_of_lt, mod-eq_of_lt}
use native.Mathlib.Numerals.{add-one}
use native.Mathlib.Decide.{ℕ_discrete}
use native.Mathlib.Omega.{arith}
use lib.Count.{count_leading_zeros, leading_top}
use lib.ListN.{get_or}
use lib.Pow.{pow_pos, pow_mono, shr_lt, shr_mono, shl-shr}
use borrow.Author.Tests.{eq-eqb, ne_eqb}
use Rattle.xoshiro_steps.specs.Xoshiro256pp.{State, steps, plus, none, times, summed, jumped, bit_of, highest_below, highest_of}
use Rattle.xoshiro_steps.proofs.Linear.{plus_none}

-- ---- one word of a polynomial
word_of : (i b : ℕ) → b < 64 → (64 * i + b) / 64 ≡ i
word_of i b h = omega arith

place_of : (i b : ℕ) → b < 64 → (64 * i + b) % 64 ≡ b
place_of i b h = omega arith

pub bit_here : (w b : ℕ) → b < 64 → w / 2 ^ (b % 64) % 2 ≡ bit_of (w ∷ []) b
unfolding bit_of
bit_here w b h = ap (λ (x : ℕ). get_or (w ∷ []) x 0 / 2 ^ (b % 64) % 2) (sym (div-eq_of_lt h))

pub bit_of_word : (p : List ℕ) (i b : ℕ) → b < 64 → bit_of p (64 * i + b) ≡ bit_of (get_or p i 0 ∷ []) b
unfolding bit_of
bit_of_word p i b h =
    ap₂ (λ (x y : ℕ). get_or p x 0 / 2 ^ y % 2) (word_of i b h) (place_of i b h ∙ sym (mod-eq_of_lt h)) ∙ bit_here (get_or p i 0) b h

-- what stays the same at each place from m to n is the same at both
stays : {A : Type 0} (f : ℕ → A) (m n : ℕ) → m ≤ n → ((k : ℕ) → m ≤ k → k < n → f (suc k) ≡ f k) → f n ≡ f m
stays f m zero l h = ap f (omega arith)
stays f m (suc n) l h =
    elim (ℕ_discrete m (suc n)) [
      | yes e ↦ ap f (sym e)
      | no d ↦ h n (omega arith) (omega arith) ∙ stays f m n (omega arith) (λ k a b. h k a (omega arith))
    ]

times-set : (b : ℕ) (s : State) → (b ≡ 0 → ⊥) → times b s ≡ s
unfolding times
times-set zero s h = absurd (h refl)
times-set (suc b) s h = refl

module _ (p : List ℕ) where
  -- ---- one more bit of the sum
  pub summed-set : (k : ℕ) (s : State) → (bit_of p k ≡ 0 → ⊥) → summed p (k + 1) s ≡ plus (summed p k s) (steps k s)
  unfolding summed
  summed-set k s h = rw (add-one k) (ap (plus (summed p k s)) (times-set (bit_of p k) (steps k s) h))

  pub summed_clear : (k : ℕ) (s : State) → bit_of p k ≡ 0 → summed p (k + 1) s ≡ summed p k s
  unfolding summed times
  summed_clear k s h = rw (add-one k) (ap (λ (b : ℕ). plus (summed p k s) (times b (steps k s))) h ∙ plus_none (summed p k s))

  -- bits that are clear add nothing
  summed-past : (m n : ℕ) (s : State) → m ≤ n → ((k : ℕ) → m ≤ k → k < n → bit_of p k ≡ 0) → summed p n s ≡ summed p m s
  summed-past m n s l h =
      stays (λ (k : ℕ). summed p k s) m n l (λ k a b. ap (λ (j : ℕ). summed p j s) (sym (add-one k)) ∙ summed_clear k s (h k a b))

  pub summed_nothing : (n : ℕ) (s : State) → ((k : ℕ) → k < n → bit_of p k ≡ 0) → summed p n s ≡ none
  unfolding summed
  summed_nothing n s h = summed-past 0 n s (omega arith) (λ k a b. h k b)

  -- ---- the highest set one: one bit more
  at_set : (k : ℕ) → (bit_of p k ≡ 0 → ⊥) → highest_below p (suc k) ≡ k
  unfolding highest_below
  at_set k h = ap (λ (b : Bool). cond b (highest_below p k) k) (ne_eqb (bit_of p k) 0 h)

  at_clear : (k : ℕ) → bit_of p k ≡ 0 → highest_below p (suc k) ≡ highest_below p k
  unfolding highest_below
  at_clear k e = ap (λ (b : Bool). cond b (highest_below p k) k) (eq-eqb (bit_of p k) 0 e)

  pub highest_zero : highest_below p 0 ≡ 0
  unfolding highest_below
  highest_zero = refl

  pub highest_below_lem : (n : ℕ) → highest_below p n ≤ n - 1
  highest_below_lem zero = let z = highest_zero in omega arith
  highest_below_lem (suc n) =
      elim (ℕ_discrete (bit_of p n) 0) [
        | yes e ↦ let c = at_clear n e in let l = highest_below_lem n in omega arith
        | no s ↦ let c = at_set n s in omega arith
      ]

  -- ---- of the first n bits none is set above it, it is set where any is, and no other bit is so
  pub above_clear : (n k : ℕ) → highest_below p n < k → k < n → bit_of p k ≡ 0
  above_clear zero k h l = absurd (not-suc-le-zero l)
  above_clear (suc n) k h l =
      elim (ℕ_discrete (bit_of p n) 0) [
        | yes e ↦
            elim (ℕ_discrete k n) [
              | yes s ↦ ap (bit_of p) s ∙ e
              | no d ↦ let c = at_clear n e in above_clear n k (omega arith) (omega arith)
            ]
        | no s ↦ let c = at_set n s in absurd (omega arith)
      ]

  pub some-set : (n k : ℕ) → k < n → (bit_of p k ≡ 0 → ⊥) → bit_of p (highest_below p n) ≡ 0 → ⊥
  some-set zero k l h z = not-suc-le-zero l
  some-set (suc n) k l h z =
      elim (ℕ_discrete (bit_of p n) 0) [
        | yes e ↦
            elim (ℕ_discrete k n) [
              | yes s ↦ h (ap (bit_of p) s ∙ e)
              | no d ↦ some-set n k (omega arith) h (ap (bit_of p) (sym (at_clear n e)) ∙ z)
            ]
        | no s ↦ s (ap (bit_of p) (sym (at_set n s)) ∙ z)
      ]

  -- bits that are clear leave it where it is
  highest_past : (m n : ℕ) → m ≤ n → ((k : ℕ) → m ≤ k → k < n → bit_of p k ≡ 0) → highest_below p n ≡ highest_below p m
  highest_past m n l h = stays (highest_below p) m n l (λ k a b. at_clear k (h k a b))

  pub highest_none : (n : ℕ) → ((k : ℕ) → k < n → bit_of p k ≡ 0) → highest_below p n ≡ 0
  highest_none n h = highest_past 0 n (omega arith) (λ k a b. h k b) ∙ highest_zero

  highest_is : (n k : ℕ) → k < n → (bit_of p k ≡ 0 → ⊥) → ((j : ℕ) → k < j → j < n → bit_of p j ≡ 0) → highest_below p n ≡ k
  highest_is n k l s c = highest_past (suc k) n l c ∙ at_set k s

  -- ---- the sum up to it is the whole sum
  pub summed_early : (s : State) → summed p (highest_of p + 1) s ≡ jumped p s
  unfolding jumped highest_of
  summed_early s =
      let l = highest_below_lem 256 in
      sym (summed-past (highest_below p 256 + 1) 256 s (omega arith) (λ k a b. above_clear 256 k (omega arith) b))

-- ---- one word more, by its highest set bit
module _ (p : List ℕ) (i : ℕ) {b : ℕ} (e : b ≡ highest_below (get_or p i 0 ∷ []) 64) where
  pub within : b < 64
  within = let l = highest_below_lem (get_or p i 0 ∷ []) 64 in omega arith

  pub word_set : (bit_of (get_or p i 0 ∷ []) b ≡ 0 → ⊥) → highest_below p (64 * i + 64) ≡ 64 * i + b
  word_set s =
      let l = within in
      highest_is p (64 * i + 64) (64 * i + b) (omega arith) (λ z. s (sym (bit_of_word p i b l) ∙ z)) (λ j h k. higher j h k)
    where
      higher : (j : ℕ) → 64 * i + b < j → j < 64 * i + 64 → bit_of p j ≡ 0
      higher j h k =
          let f : j ≡ 64 * i + (j - 64 * i) = omega arith in
          let clear = above_clear (get_or p i 0 ∷ []) 64 (j - 64 * i) (omega arith) (omega arith) in
          ap (bit_of p) f ∙ bit_of_word p i (j - 64 * i) (omega arith) ∙ clear

  pub word_clear : bit_of (get_or p i 0 ∷ []) b ≡ 0 → highest_below p (64 * i + 64) ≡ highest_below p (64 * i)
  word_clear z = highest_past p (64 * i) (64 * i + 64) (omega arith) (λ j h k. each j h k)
    where
      clear : (c : ℕ) → c < 64 → bit_of (get_or p i 0 ∷ []) c ≡ 0
      clear c l =
          elim (ℕ_discrete (bit_of (get_or p i 0 ∷ []) c) 0) [
            | yes y ↦ y
            | no s ↦ absurd (some-set (get_or p i 0 ∷ []) 64 c l s (ap (bit_of (get_or p i 0 ∷ [])) (sym e) ∙ z))
          ]

      each : (j : ℕ) → 64 * i ≤ j → j < 64 * i + 64 → bit_of p j ≡ 0
      each j h k =
          let f : j ≡ 64 * i + (j - 64 * i) = omega arith in
          ap (bit_of p) f ∙ bit_of_word p i (j - 64 * i) (omega arith) ∙ clear (j - 64 * i) (omega arith)

-- ---- the highest set bit of one word
small_clear : (w b : ℕ) → b < 64 → w < 2 ^ b → bit_of (w ∷ []) b ≡ 0
small_clear w b l h = sym (bit_here w b l) ∙ ap (λ (x : ℕ). w / 2 ^ x % 2) (mod-eq_of_lt l) ∙ ap (λ (x : ℕ). x % 2) (div-eq_of_lt h)

pub zero_highest : (w : ℕ) → w ≡ 0 → highest_below (w ∷ []) 64 ≡ 0
zero_highest w z = highest_none (w ∷ []) 64 (λ k l. small_clear w k l (let q = pow_pos k in omega arith))

top_set : (w j : ℕ) → j < 64 → 2 ^ j ≤ w → w < 2 ^ suc j → bit_of (w ∷ []) j ≡ 0 → ⊥
top_set w j l lo hi z =
    let q : w / 2 ^ j % 2 ≡ 0 = sym (ap (λ (x : ℕ). w / 2 ^ x % 2) (mod-eq_of_lt l)) ∙ bit_here w j l ∙ z in
    let least = shr_mono j lo in
    let one : 2 ^ j / 2 ^ j ≡ 1 = ap (λ (x : ℕ). x / 2 ^ j) (sym (one-mul (2 ^ j))) ∙ shl-shr 1 j in
    let s : 1 + j ≡ suc j = omega arith in
    let most : w / 2 ^ j < 2 = shr_lt {n = w} 1 j (rw s hi) in
    omega arith

module _ (w : ℕ) (h : w ≡ 0 → ⊥) (f : w < 2 ^ 64) where
  pub some-zeros : count_leading_zeros 64 w ≤ 63
  some-zeros =
      let e = (leading_top 64 w (omega arith) f).1 in
      omega arith

  pub word_highest : 63 - count_leading_zeros 64 w ≡ highest_below (w ∷ []) 64
  word_highest =
      let top = leading_top 64 w (omega arith) f in
      let j = top.0 in
      let e = top.1 in
      let l : j < 64 = omega arith in
      let set = top_set w j l top.2 top.3 in
      let is = highest_is (w ∷ []) 64 j l set (λ k a b. small_clear w k b (lt_of_lt_of_le top.3 (pow_mono a))) in
      omega arith
