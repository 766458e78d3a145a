-- The polynomial of the step is 0 at the step, on every state of words. That is computed on 64 states with one bit set; it passes to sums and
-- steps of such states, and back to a state from its step, and so to all others. Assumes nothing.
use mathlib.Core.Bool.{Bool}
use mathlib.Core.List.{List, [], ◌∷◌}
use mathlib.Core.Path.{◌≡◌, refl, sym, ap, ap₂, ◌∙◌, subst}
use Prim.Native.Nat.{ℕ, zero, suc, ◌+◌, ◌*◌, ◌/◌, ◌%◌, ◌^◌, ◌<◌, zero-le}
use native.Mathlib.Nat.{le_refl, le_trans, le-suc, mod-lt, zero-add, mul_comm, zero-mul, one-mul, pow-suc, div-lt_iff_lt-mul, div-add-mod', zero-lt-suc}
use native.Mathlib.Omega.{arith}
use lib.Arith.{lt-one}
use lib.Bits.{bit_xor, xor_self, xor_shifted, xor_zero_r}
use lib.Dec.{T, lit<, lit≤}
use lib.Pow.{pow_pos, split}
use Rattle.base.specs.Every.{every}
use Rattle.base.specs.Table.{table}
use Rattle.base.proofs.Every.{every-table}
use Rattle.base.proofs.Quad.{quad_path}
use Rattle.words.specs.Words.{shl, rotl}
use Rattle.words.proofs.Words.{rotl-rotl}
use Rattle.xoshiro_steps.specs.Claims.{Words}
use Rattle.xoshiro_steps.specs.Xoshiro256pp.{State, step, plus, none}
use Rattle.xoshiro_steps.proofs.Linear.{none-plus, step-none}
use Rattle.xoshiro_steps.proofs.Nonzero.{step-zero}
use Rattle.xoshiro_steps.proofs.Widths.{words_step, words-none, words-plus, words-times}
use Rattle.xoshiro_steps.proofs.Digits.{holds_le, holds_zero, holds_bit}
use Rattle.xoshiro_steps.proofs.Polynomials.{at_step, at_linear}
use Rattle.xoshiro_steps.proofs.Squares.{polynomial}
use Rattle.xoshiro_steps.proofs.Squaring.{parities}
use Rattle.xoshiro_steps.proofs.Wide.{zeros, wide_sum, all_even, Held, held_le, held_zeros, held_sum, held_even}

-- the coefficients of a polynomial of at most 512 bits
abbrev pub coefficients : ℕ → List ℕ
coefficients x = parities 2 512 x

-- x in word i and 0 in the others
abbrev only : ℕ → ℕ → State
only zero x = record { w0 = x; w1 = 0; w2 = 0; w3 = 0 }
only (suc zero) x = record { w0 = 0; w1 = x; w2 = 0; w3 = 0 }
only (suc (suc zero)) x = record { w0 = 0; w1 = 0; w2 = x; w3 = 0 }
only (suc (suc (suc i))) x = record { w0 = 0; w1 = 0; w2 = 0; w3 = x }

-- ---- what is computed, 16 states at a time: with digits to this base, the digits of a sum stay below it for 26 steps
abbrev B : ℕ
B = 2 ^ 60

unfoldable gone : ℕ → Bool
gone k = all_even B (wide_sum B 25 25 (coefficients polynomial) (only 0 (B ^ k)) zeros)

-- shut, so that each is computed once
unfoldable Swept : ℕ → Type 0
Swept q = T (every gone (table 16 (λ r. q * 16 + r)))

swept_0 : Swept 0
unfolding Swept gone table
swept_0 = tt

swept_1 : Swept 1
unfolding Swept gone table
swept_1 = tt

swept_2 : Swept 2
unfolding Swept gone table
swept_2 = tt

swept_3 : Swept 3
unfolding Swept gone table
swept_3 = tt

swept : (q : ℕ) → q < 4 → Swept q
swept zero h = swept_0
swept (suc zero) h = swept_1
swept (suc (suc zero)) h = swept_2
swept (suc (suc (suc zero))) h = swept_3
swept (suc (suc (suc (suc q)))) h = absurd (omega arith)

all_gone : (k : ℕ) → k < 64 → T (gone k)
unfolding Swept
all_gone k h =
    subst (λ (i : ℕ). T (gone i)) (div-add-mod' k 16)
    (every-table gone 16 (λ r. k / 16 * 16 + r) (swept (k / 16) ((div-lt_iff_lt-mul (zero-lt-suc 15)).1 h)) (k % 16) (mod-lt k (zero-lt-suc 15)))

-- ---- what it says
-- the states at which the polynomial is 0
Gone : State → Type 0
Gone s = at_step (coefficients polynomial) s ≡ none

held_bit : (k : ℕ) → k < 64 → Held B 1 (only 0 (B ^ k)) (only 0 (2 ^ k))
held_bit k h = let z = holds_le B zero-le (holds_zero B) in record { w0 = holds_bit B k h; w1 = z; w2 = z; w3 = z }

one_bit : (k : ℕ) → k < 64 → Gone (only 0 (2 ^ k))
unfolding Gone gone
one_bit k h =
    sym (none-plus _)
    ∙ held_even B (lit< tt) (held_sum B 25 (2 ^ 58) (lit≤ tt) (lit< tt) 25 (coefficients polynomial) (lit≤ tt) (held_bit k h) (held_le B zero-le (held_zeros B))) (all_gone k h)

gone_plus : (s t : State) → Gone s → Gone t → Gone (plus s t)
unfolding Gone
gone_plus s t p q = (at_linear (coefficients polynomial)).adds s t ∙ ap₂ plus p q ∙ none-plus none

gone_step : (s : State) → Gone s → Gone (step s)
unfolding Gone
gone_step s p = (at_linear (coefficients polynomial)).steps_with s ∙ ap step p ∙ step-none

words-at : (p : List ℕ) (s : State) → Words s → Words (at_step p s)
words-at [] s w = words-none
words-at (c ∷ p) s w = words-plus _ _ (words-times (c % 2) s w) (words-at p (step s) (words_step s w))

-- no other state of words than 0 steps to 0
gone_back : (s : State) → Words s → Gone (step s) → Gone s
unfolding Gone
gone_back s w p =
    step-zero (at_step (coefficients polynomial) s) (words-at (coefficients polynomial) s w)
    (sym ((at_linear (coefficients polynomial)).steps_with s) ∙ p)

-- ---- from bits to words: a word is the sum of its bits
top : (Q : ℕ → Type 0) → ((x y : ℕ) → Q x → Q y → Q (bit_xor x y)) → (n q r : ℕ) → q < 2 → r < 2 ^ n → Q (2 ^ n) → Q r → Q (q * 2 ^ n + r)
top Q sum n zero r h k p t = subst Q (sym (ap (λ (y : ℕ). y + r) (zero-mul (2 ^ n)) ∙ zero-add r)) t
top Q sum n (suc zero) r h k p t = subst Q (xor_shifted 1 n r k) (sum (1 * 2 ^ n) r (subst Q (sym (one-mul (2 ^ n))) p) t)
top Q sum n (suc (suc q)) r h k p t = absurd (omega arith)

each_word : (Q : ℕ → Type 0) → Q 0 → ((x y : ℕ) → Q x → Q y → Q (bit_xor x y)) → (n : ℕ) → ((k : ℕ) → k < n → Q (2 ^ k)) → (x : ℕ) → x < 2 ^ n → Q x
each_word Q z sum zero one x h = subst Q (sym (lt-one h)) z
each_word Q z sum (suc n) one x h =
    subst Q (split x n)
    (top Q sum n (x / 2 ^ n) (x % 2 ^ n)
    ((div-lt_iff_lt-mul (pow_pos n)).1 (subst (λ (y : ℕ). x < y) (pow-suc 2 n ∙ mul_comm (2 ^ n) 2) h))
    (mod-lt x (pow_pos n))
    (one n (le_refl (suc n)))
    (each_word Q z sum n (λ k l. one k (le_trans l (le-suc n))) (x % 2 ^ n) (mod-lt x (pow_pos n))))

-- ---- from the first word to the others
first_word : (x : ℕ) → x < 2 ^ 64 → Gone (only 0 x)
unfolding Gone none plus
first_word = each_word (λ (x : ℕ). Gone (only 0 x)) (at_linear (coefficients polynomial)).zeroes (λ x y. gone_plus (only 0 x) (only 0 y)) 64 one_bit

-- (x, 0, 0, 0) and its step (x, x, x, 0) add up to (0, x, x, 0), a step of (0, 0, x, 0)
third_word : (x : ℕ) → x < 2 ^ 64 → Gone (only 2 x)
unfolding plus step shl rotl
third_word x h =
    gone_back (only 2 x) (record { w0 = pow_pos 64; w1 = pow_pos 64; w2 = h; w3 = pow_pos 64 })
    (subst Gone adds (gone_plus (only 0 x) (step (only 0 x)) (first_word x h) (gone_step (only 0 x) (first_word x h))))
  where
    adds : plus (only 0 x) (step (only 0 x)) ≡ step (only 2 x)
    adds = quad_path (ap (bit_xor x) (xor_zero_r x) ∙ xor_self x) (sym (xor_zero_r x)) (sym (xor_zero_r (bit_xor x 0)) ∙ refl) refl

-- and that step and (0, 0, x, 0) add up to (0, x, 0, 0)
second_word : (x : ℕ) → x < 2 ^ 64 → Gone (only 1 x)
unfolding plus step shl rotl
second_word x h = subst Gone adds (gone_plus (only 2 x) (step (only 2 x)) (third_word x h) (gone_step (only 2 x) (third_word x h)))
  where
    adds : plus (only 2 x) (step (only 2 x)) ≡ only 1 x
    adds = quad_path refl (xor_zero_r x) (ap (bit_xor x) (xor_zero_r (bit_xor x 0) ∙ xor_zero_r x) ∙ xor_self x) refl

-- a step of (0, y, 0, 0) is (y, y, y << 17, y rotated by 45), and x is y rotated by 45 where y is x rotated by 19
fourth_word : (x : ℕ) → x < 2 ^ 64 → Gone (only 3 x)
unfolding plus step shl rotl
fourth_word x h =
    let y : ℕ = rotl 19 x in
    let k : y < 2 ^ 64 = rotl_lt x in
    subst (λ (z : ℕ). Gone (only 3 z)) (rotl-rotl 45 19 x refl h)
    (subst Gone (adds y)
    (gone_plus (step (only 1 y)) (plus (only 0 y) (plus (only 1 y) (only 2 (shl 17 y)))) (gone_step (only 1 y) (second_word y k))
    (gone_plus (only 0 y) (plus (only 1 y) (only 2 (shl 17 y))) (first_word y k)
    (gone_plus (only 1 y) (only 2 (shl 17 y)) (second_word y k) (third_word (shl 17 y) (shl_lt y))))))
  where
    adds : (y : ℕ) → plus (step (only 1 y)) (plus (only 0 y) (plus (only 1 y) (only 2 (shl 17 y)))) ≡ only 3 (rotl 45 y)
    adds y = quad_path (ap (bit_xor y) (xor_zero_r y) ∙ xor_self y) (xor_self (bit_xor y 0)) (xor_self (shl 17 y)) (xor_zero_r (rotl 45 y))

    rotl_lt : (x : ℕ) → rotl 19 x < 2 ^ 64
    rotl_lt x = omega arith

    shl_lt : (x : ℕ) → shl 17 x < 2 ^ 64
    shl_lt x = mod-lt _ (pow_pos 64)

-- a state is the sum of its words
pub gone_all : (s : State) → Words s → at_step (coefficients polynomial) s ≡ none
unfolding Gone plus
gone_all s w =
    subst Gone parts
    (gone_plus (only 0 s.w0) _ (first_word s.w0 w.w0)
    (gone_plus (only 1 s.w1) _ (second_word s.w1 w.w1)
    (gone_plus (only 2 s.w2) _ (third_word s.w2 w.w2) (fourth_word s.w3 w.w3))))
  where
    parts : plus (only 0 s.w0) (plus (only 1 s.w1) (plus (only 2 s.w2) (only 3 s.w3))) ≡ s
    parts = quad_path (xor_zero_r s.w0) (xor_zero_r s.w1) (xor_zero_r s.w2) refl
