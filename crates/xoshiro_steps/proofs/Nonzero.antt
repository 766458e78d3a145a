-- A step gives the zero state only from it. Assumes nothing.
use mathlib.Core.Path.{◌≡◌, refl, sym, ap, ◌∙◌, subst}
use mathlib.Core.Bool.{Bool, true, false, ◌&&◌, true≢false}
use Prim.Native.Nat.{ℕ, zero, suc, ◌+◌, ◌-◌, ◌*◌, ◌/◌, ◌%◌, ◌^◌, ◌<◌}
use native.Mathlib.Nat.{mod-eq_of_lt, mul-mod_left}
use native.Mathlib.Omega.{arith}
use lib.Bits.{bit_xor, xor_lt, xor_self, xor_zero_r}
use lib.Dec.{T, eqb, eqb→eq}
use lib.Pow.{shr_lt}
use Rattle.base.specs.Iterate.{iterate}
use Rattle.base.proofs.Quad.{quad_path}
use Rattle.base.proofs.Xor.{xor_assoc}
use Rattle.words.specs.Words.{shl, rotl}
use Rattle.xoshiro_steps.specs.Claims.{Words}
use Rattle.xoshiro_steps.specs.Xoshiro256pp.{State, step, steps, none, all_zero}
use Rattle.xoshiro_steps.proofs.Widths.{words-steps}

-- numbers whose xor is 0 are equal
xor_equal : (a b : ℕ) → bit_xor a b ≡ 0 → a ≡ b
xor_equal a b e = sym (xor_zero_r a) ∙ ap (bit_xor a) (sym (xor_self b)) ∙ sym (xor_assoc a b b) ∙ ap (λ (x : ℕ). bit_xor x b) e

-- a rotation gives 0 only from 0
rotl-zero : (x : ℕ) → x < 2 ^ 64 → x % 2 ^ 19 * 2 ^ 45 + x / 2 ^ 19 % 2 ^ 45 ≡ 0 → x ≡ 0
rotl-zero x h e =
    let low : x % 2 ^ 19 ≡ 0 = omega arith in
    let high : x / 2 ^ 19 ≡ 0 = sym (mod-eq_of_lt (shr_lt 45 19 h)) ∙ omega arith in
    omega arith

-- only 0 is its own shift by 17: 2 ^ 68 - 1 is a multiple of 2 ^ 17 - 1
shl-same : (x : ℕ) → x < 2 ^ 64 → x ≡ x * 2 ^ 17 % 2 ^ 64 → x ≡ 0
shl-same x h e =
    let q : ℕ = x * 2 ^ 17 / 2 ^ 64 in
    let f : x + q * 2 ^ 64 ≡ x * 2 ^ 17 = omega arith in
    let z : ℕ = 16 * x - 0x8_0004_0002_0001 * q in
    let g : x ≡ z * 2 ^ 64 = omega arith in
    sym (mod-eq_of_lt h) ∙ ap (λ (y : ℕ). y % 2 ^ 64) g ∙ mul-mod_left z (2 ^ 64)

-- word 3 makes w3 and w1 equal, word 0 makes w0 zero, words 1 and 2 make w1, w2 and w1's shift equal
pub step-zero : (s : State) → Words s → step s ≡ none → s ≡ none
unfolding step none shl rotl
step-zero s h e =
    let a : ℕ = bit_xor s.w2 s.w0 in
    let b : ℕ = bit_xor s.w3 s.w1 in
    let b0 : b ≡ 0 = rotl-zero b (xor_lt 64 s.w3 s.w1 h.w3 h.w1) (ap (λ (q : State). q.w3) e) in
    let e0 : s.w0 ≡ 0 = xor_equal s.w0 b (ap (λ (q : State). q.w0) e) ∙ b0 in
    let e31 : s.w3 ≡ s.w1 = xor_equal s.w3 s.w1 b0 in
    let a2 : a ≡ s.w2 = ap (bit_xor s.w2) e0 ∙ xor_zero_r s.w2 in
    let e1a : s.w1 ≡ a = xor_equal s.w1 a (ap (λ (q : State). q.w1) e) in
    let e1 : s.w1 ≡ 0 = shl-same s.w1 h.w1 (e1a ∙ xor_equal a _ (ap (λ (q : State). q.w2) e)) in
    quad_path e0 e1 (sym a2 ∙ sym e1a ∙ e1) (e31 ∙ e1)

steps-zero : (n : ℕ) (s : State) → Words s → steps n s ≡ none → s ≡ none
unfolding iterate
steps-zero zero s w e = e
steps-zero (suc n) s w e = steps-zero n s w (step-zero (steps n s) (words-steps n s w) e)

pub four_pass : (a b c d : Bool) → T (a && b && c && d) → T a × T b × T c × T d
four_pass true true true d t = (tt, tt, tt, t)
four_pass false b c d t = absurd t
four_pass true false c d t = absurd t
four_pass true true false d t = absurd t

all_zero_lem : (s : State) → T (all_zero s) → s ≡ none
unfolding all_zero none
all_zero_lem s t =
    let z = four_pass (eqb s.w0 0) (eqb s.w1 0) (eqb s.w2 0) (eqb s.w3 0) t in
    quad_path (eqb→eq s.w0 0 z.0) (eqb→eq s.w1 0 z.1) (eqb→eq s.w2 0 z.2) (eqb→eq s.w3 0 z.3)

-- a state with a nonzero word has one after any steps
pub nonzero_steps : (n : ℕ) (s : State) → Words s → all_zero s ≡ false → all_zero (steps n s) ≡ false
unfolding all_zero none
nonzero_steps n s h e = go (all_zero (steps n s)) refl
  where
    go : (b : Bool) → all_zero (steps n s) ≡ b → b ≡ false
    go true z = absurd (true≢false (sym (ap all_zero (steps-zero n s h (all_zero_lem (steps n s) (subst T (sym z) tt)))) ∙ e))
    go false z = refl
