-- Laws of shifts, rotations and products of words. Assumes nothing.
use Rattle.std.proofs.Common.{◌≡◌, ℕ, zero, suc, ◌+◌, ◌-◌, ◌*◌, ◌/◌, ◌%◌, ◌^◌, ◌<◌, ◌≤◌, sym, refl, ap, ◌∙◌, subst, ap₂, lt_of_le_of_lt, add-zero, le_of_lt, add_assoc, mod-lt, mod-eq_of_lt, mul_assoc, mul_comm, add-mul, add_comm, mul-le-mul_left, mul-lt-mul_of_pos_right, div-add-mod', mul-one, mul-add, div-one, mul_left_comm, arith, pow_pos, shr_lt}
use native.Mathlib.Nat.{mul-mod_left, mod-one, add-mul-mod_self_right, mod-add-mod, add_left_comm}
use lib.Pow.{mod-pow-add, shl-shr, split, high, low}
use lib.Bits.{bit_xor, bit_or, bit_and, or_shifted, or_self, and_mask, xor_shr, xor_mod, xor_block}
use Rattle.base.proofs.Xor.{xor_times}
use Rattle.words.specs.Words.{shl, rotl}

-- ---- a rotation by two shifts
pub shl_mod : (x j k : ℕ) → x * 2 ^ k % 2 ^ (j + k) ≡ x % 2 ^ j * 2 ^ k
shl_mod x j k =
    mod-pow-add (x * 2 ^ k) j k
    ∙ ap₂ (λ (a b : ℕ). a % 2 ^ j * 2 ^ k + b) (shl-shr x k) (mul-mod_left x (2 ^ k))
    ∙ add-zero (x % 2 ^ j * 2 ^ k)

rotl_shifts : (x k : ℕ) → x < 2 ^ 64 → k ≤ 64 → bit_or (x * 2 ^ k % 2 ^ 64) (x / 2 ^ (64 - k)) ≡ rotl k x
unfolding rotl
rotl_shifts x k hx hk =
    let j : ℕ = 64 - k in
    let e : 64 ≡ j + k = omega arith in
    let e' : 64 ≡ k + j = omega arith in
    let small : x / 2 ^ j < 2 ^ k = shr_lt k j (subst (λ (n : ℕ). x < 2 ^ n) e' hx) in
    ap (λ (n : ℕ). bit_or (x * 2 ^ k % 2 ^ n) (x / 2 ^ j)) e
    ∙ ap (λ (y : ℕ). bit_or y (x / 2 ^ j)) (shl_mod x j k)
    ∙ or_shifted (x % 2 ^ j) k (x / 2 ^ j) small
    ∙ ap (λ (y : ℕ). x % 2 ^ j * 2 ^ k + y) (sym (mod-eq_of_lt small))

-- where the shift back is counted modulo 64, a rotation by 0 too
pub rotl-total : (x j : ℕ) → x < 2 ^ 64 → j < 64 → bit_or (x * 2 ^ j % 2 ^ 64) (x / 2 ^ ((64 - j) % 64)) ≡ rotl j x
rotl-total x zero hx hj =
    let a : x * 2 ^ 0 % 2 ^ 64 ≡ x = ap (λ (n : ℕ). n % 2 ^ 64) (mul-one x) ∙ mod-eq_of_lt hx in
    ap₂ bit_or a (div-one x) ∙ or_self x ∙ sym whole
  where
    whole : rotl 0 x ≡ x
    whole = unfold rotl in (ap₂ (λ (y z : ℕ). y * 2 ^ 0 + z) (mod-eq_of_lt hx) (mod-one (x / 2 ^ 64)) ∙ add-zero (x * 2 ^ 0) ∙ mul-one x)
rotl-total x (suc j) hx hj =
    let e : (64 - suc j) % 64 ≡ 64 - suc j = mod-eq_of_lt (omega arith) in
    ap (λ (n : ℕ). bit_or (x * 2 ^ suc j % 2 ^ 64) (x / 2 ^ n)) e ∙ rotl_shifts x (suc j) hx (omega arith)

-- ---- the two are linear over xor, on all numbers
pub shl_xor : (k a b : ℕ) → shl k (bit_xor a b) ≡ bit_xor (shl k a) (shl k b)
unfolding shl
shl_xor k a b = ap (λ (x : ℕ). x % 2 ^ 64) (sym (xor_times a b k)) ∙ xor_mod (a * 2 ^ k) (b * 2 ^ k) 64

pub rotl_xor : (k a b : ℕ) → rotl k (bit_xor a b) ≡ bit_xor (rotl k a) (rotl k b)
unfolding rotl
rotl_xor k a b =
    let j : ℕ = 64 - k in
    ap₂ (λ (x y : ℕ). x * 2 ^ k + y % 2 ^ k) (xor_mod a b j) (xor_shr a b j)
    ∙ ap (λ (y : ℕ). bit_xor (a % 2 ^ j) (b % 2 ^ j) * 2 ^ k + y) (xor_mod (a / 2 ^ j) (b / 2 ^ j) k)
    ∙ sym (xor_block k (a % 2 ^ j) (b % 2 ^ j) (a / 2 ^ j % 2 ^ k) (b / 2 ^ j % 2 ^ k) (mod-lt (a / 2 ^ j) (pow_pos k)) (mod-lt (b / 2 ^ j) (pow_pos k)))

-- ---- a rotation by k, and then by what is left of 64, is none
pub rotl-rotl : (j k x : ℕ) → j + k ≡ 64 → x < 2 ^ 64 → rotl j (rotl k x) ≡ x
unfolding rotl
rotl-rotl j k x e h =
    let a : 64 - k ≡ j = omega arith in
    let b : 64 - j ≡ k = omega arith in
    let hi : x / 2 ^ j < 2 ^ k = shr_lt k j (subst (λ (n : ℕ). x < 2 ^ n) (sym e ∙ add_comm j k) h) in
    let y : ℕ = x % 2 ^ j * 2 ^ k + x / 2 ^ j in
    let q : rotl k x ≡ y = ap (λ (n : ℕ). x % 2 ^ n * 2 ^ k + x / 2 ^ n % 2 ^ k) a ∙ ap (λ (z : ℕ). x % 2 ^ j * 2 ^ k + z) (mod-eq_of_lt hi) in
    ap (rotl j) q
    ∙ ap (λ (n : ℕ). y % 2 ^ n * 2 ^ j + y / 2 ^ n % 2 ^ j) b
    ∙ ap₂ (λ (u v : ℕ). u * 2 ^ j + v % 2 ^ j) (low (x % 2 ^ j) k hi) (high (x % 2 ^ j) k hi)
    ∙ ap (λ (z : ℕ). x / 2 ^ j * 2 ^ j + z) (mod-eq_of_lt (mod-lt x (pow_pos j)))
    ∙ split x j

-- ---- a product modulo P * P, by halves
halves : (P a₀ a₁ b₀ b₁ : ℕ) → (a₁ * P + a₀) * (b₁ * P + b₀) ≡ (a₁ * b₀ + a₀ * b₁) * P + a₀ * b₀ + a₁ * b₁ * (P * P)
halves P a₀ a₁ b₀ b₁ = simp (mul-add, add-mul, mul_assoc, mul_comm, mul_left_comm, add_assoc, add_comm, add_left_comm) refl

-- a factor reduced modulo m
reduced : (M P c m : ℕ) → (M % m * P + c) % m ≡ (M * P + c) % m
reduced M P c m =
    sym (add-mul-mod_self_right (M % m * P + c) (M / m * P) m)
    ∙ ap (λ (x : ℕ). x % m) (regroup (M / m) (M % m) ∙ ap (λ (x : ℕ). x * P + c) (div-add-mod' M m))
  where
    regroup : (q r : ℕ) → r * P + c + q * P * m ≡ (q * m + r) * P + c
    regroup q r = simp (add-mul, mul_assoc, mul_comm, mul_left_comm, add_assoc, add_comm, add_left_comm) refl

mul_halves : (P a₀ a₁ b₀ b₁ : ℕ) → ((a₁ * b₀ + a₀ * b₁) % (P * P) * P % (P * P) + a₀ * b₀) % (P * P) ≡ (a₁ * P + a₀) * (b₁ * P + b₀) % (P * P)
mul_halves P a₀ a₁ b₀ b₁ =
    mod-add-mod ((a₁ * b₀ + a₀ * b₁) % (P * P) * P) (P * P) (a₀ * b₀)
    ∙ reduced (a₁ * b₀ + a₀ * b₁) P (a₀ * b₀) (P * P)
    ∙ sym (ap (λ (x : ℕ). x % (P * P)) (halves P a₀ a₁ b₀ b₁) ∙ add-mul-mod_self_right ((a₁ * b₀ + a₀ * b₁) * P + a₀ * b₀) (a₁ * b₁) (P * P))

-- what `wrapping_mul` computes from masks and shifts
pub mul_words : (a b : ℕ)
    → ((a / 2 ^ 32 * bit_and b 0xffff_ffff + bit_and a 0xffff_ffff * (b / 2 ^ 32)) % 2 ^ 64 * 2 ^ 32 % 2 ^ 64 + bit_and a 0xffff_ffff * bit_and b 0xffff_ffff) % 2 ^ 64 ≡ a * b % 2 ^ 64
mul_words a b =
    (λ i. ((a / 2 ^ 32 * and_mask b 32 i + and_mask a 32 i * (b / 2 ^ 32)) % 2 ^ 64 * 2 ^ 32 % 2 ^ 64 + and_mask a 32 i * and_mask b 32 i) % 2 ^ 64)
    ∙ mul_halves (2 ^ 32) (a % 2 ^ 32) (a / 2 ^ 32) (b % 2 ^ 32) (b / 2 ^ 32)
    ∙ ap₂ (λ (x y : ℕ). x * y % 2 ^ 64) (split a 32) (split b 32)

-- the product of two numbers of 32 bits has 64
pub half_product : {a b : ℕ} → a < 2 ^ 32 → b < 2 ^ 32 → a * b < 2 ^ 64
half_product {a} {b} ha hb = lt_of_le_of_lt (mul-le-mul_left a (le_of_lt hb)) (mul-lt-mul_of_pos_right ha (pow_pos 32))
