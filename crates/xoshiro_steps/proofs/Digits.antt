-- A word of 64 bits held in one large number, with a digit to the base B for each bit, of which only the parity counts: xor is then a sum,
-- and shifts and rotations move digits. Assumes nothing.
use mathlib.Core.List.{List, [], ◌∷◌, ◌++◌}
use mathlib.Core.Path.{◌≡◌, refl, sym, ap, ap₂, ◌∙◌, subst}
use Prim.Native.Nat.{ℕ, zero, suc, ◌+◌, ◌-◌, ◌*◌, ◌/◌, ◌%◌, ◌^◌, ◌≤◌, ◌<◌, zero-le, min}
use native.Mathlib.Nat.{mod-lt, mod-mod, add-mod, zero-lt-suc, le_refl, le_trans, lt_of_le_of_lt, add-zero, add_assoc, add-mul, mul_assoc, mul-one, one-mul}
use native.Mathlib.Nat.{zero-mul, pow-suc, pow-zero, mod-eq_of_lt, min-eq_left, zero-div}
use native.Mathlib.Omega.{arith}
use lib.Arith.{digits_lt, digits_div, digits_mod}
use lib.Bits.{bit_xor, xor_block, xor_zero_r}
use lib.Dec.{T, eqb, eqb→eq, lit≤}
use lib.ListN.{length, take, drop, replicate, length-append, length-take, length-drop, length-replicate, take-append-drop}
use lib.Pow.{high, low}
use Rattle.words.specs.Words.{shl, rotl}
use Rattle.words.proofs.Words.{shl_mod}
use Rattle.xoshiro_steps.proofs.Polynomials.{sum, value, value_sum}

-- ---- lists of digits, the lowest first
value_lt : (B : ℕ) (l : List ℕ) → value 1 l < B → value B l < B ^ length l
value_lt B [] h = subst (λ (x : ℕ). 0 < x) (sym (pow-zero B)) (le_refl 1)
value_lt B (a ∷ l) h =
    let t : value 1 l + a < B = rw (← mul-one (value 1 l)) h in
    subst (λ (x : ℕ). value B l * B + a < x) (sym (pow-suc B (length l))) (digits_lt (value_lt B l (omega arith)) (omega arith))

value-append : (x : ℕ) (l q : List ℕ) → value x (l ++ q) ≡ value x q * x ^ length l + value x l
value-append x [] q = sym (add-zero (value x q * x ^ 0) ∙ ap (λ (y : ℕ). value x q * y) (pow-zero x) ∙ mul-one (value x q))
value-append x (a ∷ l) q =
    rw (value-append x l q, pow-suc x (length l), add-mul (value x q * x ^ length l) (value x l) x, mul_assoc (value x q) (x ^ length l) x)
    (add_assoc (value x q * (x ^ length l * x)) (value x l * x) a)

one_pow : (n : ℕ) → 1 ^ n ≡ 1
one_pow zero = pow-zero 1
one_pow (suc n) = pow-suc 1 n ∙ mul-one (1 ^ n) ∙ one_pow n

total-append : (l q : List ℕ) → value 1 (l ++ q) ≡ value 1 q + value 1 l
total-append l q = value-append 1 l q ∙ ap (λ (x : ℕ). value 1 q * x + value 1 l) (one_pow (length l)) ∙ ap (λ (x : ℕ). x + value 1 l) (mul-one (value 1 q))

value-zeros : (x i : ℕ) → value x (replicate i 0) ≡ 0
value-zeros x zero = refl
value-zeros x (suc i) = ap (λ (y : ℕ). y * x + 0) (value-zeros x i) ∙ add-zero (0 * x) ∙ zero-mul x

length_sum : (l q : List ℕ) (n : ℕ) → length l ≡ n → length q ≡ n → length (sum l q) ≡ n
length_sum [] q n e f = f
length_sum (a ∷ l) [] n e f = e
length_sum (a ∷ l) (b ∷ q) n e f = ap suc (length_sum l q (length l) refl (omega arith)) ∙ e

-- ---- the number whose bits are the digits' parities
odd : List ℕ → List ℕ
odd [] = []
odd (a ∷ l) = a % 2 ∷ odd l

abbrev word : List ℕ → ℕ
word l = value 2 (odd l)

bit : (x : ℕ) → x % 2 < 2
bit x = mod-lt x (zero-lt-suc 1)

length_odd : (l : List ℕ) → length (odd l) ≡ length l
unfolding odd
length_odd [] = refl
length_odd (a ∷ l) = ap suc (length_odd l)

odd_append : (l q : List ℕ) → odd (l ++ q) ≡ odd l ++ odd q
unfolding odd
odd_append [] q = refl
odd_append (a ∷ l) q = ap (λ (t : List ℕ). a % 2 ∷ t) (odd_append l q)

odd_zeros : (i : ℕ) → odd (replicate i 0) ≡ replicate i 0
unfolding odd
odd_zeros zero = refl
odd_zeros (suc i) = ap (λ (t : List ℕ). 0 ∷ t) (odd_zeros i)

odd_odd : (l : List ℕ) → odd (odd l) ≡ odd l
unfolding odd
odd_odd [] = refl
odd_odd (a ∷ l) = ap₂ ◌∷◌ (mod-mod a 2) (odd_odd l)

odd_total : (l : List ℕ) → value 1 (odd l) ≤ length l
unfolding odd
odd_total [] = zero-le
odd_total (a ∷ l) =
    let h = odd_total l in
    let b = bit a in
    rw (mul-one (value 1 (odd l))) (omega arith)

word_lt : (l : List ℕ) → word l < 2 ^ length l
unfolding odd
word_lt [] = le_refl 1
word_lt (a ∷ l) = subst (λ (x : ℕ). word l * 2 + a % 2 < x) (sym (pow-suc 2 (length l))) (digits_lt (word_lt l) (bit a))

word-append : (l q : List ℕ) → word (l ++ q) ≡ word q * 2 ^ length l + word l
word-append l q = ap (value 2) (odd_append l q) ∙ value-append 2 (odd l) (odd q) ∙ ap (λ (n : ℕ). word q * 2 ^ n + word l) (length_odd l)

word-zeros : (i : ℕ) → word (replicate i 0) ≡ 0
word-zeros i = ap (value 2) (odd_zeros i) ∙ value-zeros 2 i

bit-xor : (x y : ℕ) → x < 2 → y < 2 → (x + y) % 2 ≡ bit_xor x y
bit-xor zero zero h k = refl
bit-xor zero (suc zero) h k = refl
bit-xor (suc zero) zero h k = refl
bit-xor (suc zero) (suc zero) h k = refl
bit-xor zero (suc (suc y)) h k = absurd (omega arith)
bit-xor (suc zero) (suc (suc y)) h k = absurd (omega arith)
bit-xor (suc (suc x)) y h k = absurd (omega arith)

word_sum : (l q : List ℕ) → word (sum l q) ≡ bit_xor (word l) (word q)
unfolding odd
word_sum [] q = refl
word_sum (a ∷ l) [] = sym (xor_zero_r (word l * 2 + a % 2))
word_sum (a ∷ l) (b ∷ q) =
    ap₂ (λ (x y : ℕ). x * 2 + y) (word_sum l q) (add-mod a b 2 ∙ bit-xor (a % 2) (b % 2) (bit a) (bit b))
    ∙ sym (xor_block 1 (word l) (word q) (a % 2) (b % 2) (bit a) (bit b))

-- ---- X holds the word x, in 64 digits that are at most m together
pub record Holds (B m X x : ℕ) : Type 0 where
  digits : List ℕ
  long : length digits ≡ 64
  small : value 1 digits ≤ m
  packed : value B digits ≡ X
  held : word digits ≡ x

module _ (B : ℕ) where
  pub holds_le : {m k X x : ℕ} → m ≤ k → Holds B m X x → Holds B k X x
  holds_le h w = record { digits = w.digits; long = w.long; small = le_trans w.small h; packed = w.packed; held = w.held }

  pub holds_zero : Holds B 0 0 0
  holds_zero = record { digits = replicate 64 0; long = refl; small = lit≤ tt; packed = value-zeros B 64; held = word-zeros 64 }

  pub holds_xor : {m k X Y x y : ℕ} → Holds B m X x → Holds B k Y y → Holds B (m + k) (X + Y) (bit_xor x y)
  holds_xor {m} {k} w u =
      let a = w.small in
      let b = u.small in
      record {
        digits = sum w.digits u.digits;
        long = length_sum w.digits u.digits 64 w.long u.long;
        small = rw (value_sum 1 w.digits u.digits) (omega arith);
        packed = value_sum B w.digits u.digits ∙ ap₂ ◌+◌ w.packed u.packed;
        held = word_sum w.digits u.digits ∙ ap₂ bit_xor w.held u.held;
      }

  -- one bit
  pub holds_bit : (k : ℕ) → k < 64 → Holds B 1 (B ^ k) (2 ^ k)
  unfolding odd
  holds_bit k h =
      record {
        digits = one;
        long = length-append (replicate k 0) _ ∙ ap₂ ◌+◌ (length-replicate {A = ℕ} k 0) (ap suc (length-replicate {A = ℕ} (63 - k) 0)) ∙ omega arith;
        small = subst (λ (x : ℕ). x ≤ 1) (sym (at 1 ∙ one_pow k)) (le_refl 1);
        packed = at B;
        held = ap (value 2) odd_one ∙ at 2;
      }
    where
      one : List ℕ
      one = replicate k 0 ++ (1 ∷ replicate (63 - k) 0)

      at : (x : ℕ) → value x one ≡ x ^ k
      at x =
          value-append x (replicate k 0) (1 ∷ replicate (63 - k) 0)
          ∙ (λ i. (value-zeros x (63 - k) i * x + 1) * x ^ length-replicate {A = ℕ} k 0 i + value-zeros x k i)
          ∙ add-zero _ ∙ ap (λ (y : ℕ). (y + 1) * x ^ k) (zero-mul x) ∙ one-mul (x ^ k)

      odd_one : odd one ≡ one
      odd_one = odd_append (replicate k 0) (1 ∷ replicate (63 - k) 0) ∙ ap₂ (λ (l q : List ℕ). l ++ (1 ∷ q)) (odd_zeros k) (odd_zeros (63 - k))

  -- the low k digits and the others, and so of the word
  module _ {m X x : ℕ} (k : ℕ) (le : k ≤ 64) (room : m < B) (w : Holds B m X x) where
    lo : List ℕ
    lo = take k w.digits

    hi : List ℕ
    hi = drop k w.digits

    joined : lo ++ hi ≡ w.digits
    unfolding lo hi
    joined = take-append-drop k w.digits

    long_lo : length lo ≡ k
    unfolding lo
    long_lo = length-take k w.digits ∙ ap (min k) w.long ∙ min-eq_left le

    long_hi : length hi ≡ 64 - k
    unfolding hi
    long_hi = length-drop k w.digits ∙ ap (λ (n : ℕ). n - k) w.long

    total : value 1 hi + value 1 lo ≤ m
    total = subst (λ (n : ℕ). n ≤ m) (ap (value 1) (sym joined) ∙ total-append lo hi) w.small

    lo_lt : value B lo < B ^ k
    lo_lt = let t = total in subst (λ (n : ℕ). value B lo < B ^ n) long_lo (value_lt B lo (omega arith))

    cut : X ≡ value B hi * B ^ k + value B lo
    cut = sym w.packed ∙ ap (value B) (sym joined) ∙ value-append B lo hi ∙ ap (λ (n : ℕ). value B hi * B ^ n + value B lo) long_lo

    lo_is : X % B ^ k ≡ value B lo
    lo_is = ap (λ (n : ℕ). n % B ^ k) cut ∙ digits_mod (value B hi) lo_lt

    hi_is : X / B ^ k ≡ value B hi
    hi_is = ap (λ (n : ℕ). n / B ^ k) cut ∙ digits_div (value B hi) lo_lt

    word_cut : x ≡ word hi * 2 ^ k + word lo
    word_cut = sym w.held ∙ ap word (sym joined) ∙ word-append lo hi ∙ ap (λ (n : ℕ). word hi * 2 ^ n + word lo) long_lo

    word_lo_lt : word lo < 2 ^ k
    word_lo_lt = subst (λ (n : ℕ). word lo < 2 ^ n) long_lo (word_lt lo)

    word_hi_lt : word hi < 2 ^ (64 - k)
    word_hi_lt = subst (λ (n : ℕ). word hi < 2 ^ n) long_hi (word_lt hi)

    word_lo : x % 2 ^ k ≡ word lo
    word_lo = ap (λ (n : ℕ). n % 2 ^ k) word_cut ∙ low (word hi) k word_lo_lt

    word_hi : x / 2 ^ k ≡ word hi
    word_hi = ap (λ (n : ℕ). n / 2 ^ k) word_cut ∙ high (word hi) k word_lo_lt

  -- digits 19 to 63 go down to 0 to 44, and digits 0 to 18 up to 45 to 63
  abbrev pub rotated : ℕ → ℕ
  rotated X = X % B ^ 19 * B ^ 45 + X / B ^ 19

  pub holds_rotl : {m X x : ℕ} → m < B → Holds B m X x → Holds B m (rotated X) (rotl 45 x)
  unfolding rotl
  holds_rotl {m} room w =
      let le : 19 ≤ 64 = lit≤ tt in
      let l = lo 19 le room w in
      let h = hi 19 le room w in
      let long : length h ≡ 45 = long_hi 19 le room w in
      let t = total 19 le room w in
      record {
        digits = h ++ l;
        long = length-append h l ∙ ap₂ ◌+◌ long (long_lo 19 le room w);
        small = rw (total-append h l) (omega arith);
        packed =
            value-append B h l ∙ ap (λ (n : ℕ). value B l * B ^ n + value B h) long
            ∙ sym (ap₂ (λ (p q : ℕ). p * B ^ 45 + q) (lo_is 19 le room w) (hi_is 19 le room w));
        held =
            word-append h l ∙ ap (λ (n : ℕ). word l * 2 ^ n + word h) long
            ∙ sym (ap₂ (λ (p q : ℕ). p * 2 ^ 45 + q) (word_lo 19 le room w) (ap (λ (q : ℕ). q % 2 ^ 45) (word_hi 19 le room w) ∙ mod-eq_of_lt (word_hi_lt 19 le room w)));
      }

  -- digits 0 to 46 go up to 17 to 63
  abbrev pub shifted : ℕ → ℕ
  shifted X = X % B ^ 47 * B ^ 17

  pub holds_shl : {m X x : ℕ} → m < B → Holds B m X x → Holds B m (shifted X) (shl 17 x)
  unfolding shl
  holds_shl {m} {x = x} room w =
      let le : 47 ≤ 64 = lit≤ tt in
      let l = lo 47 le room w in
      let z : List ℕ = replicate 17 0 in
      let t = total 47 le room w in
      record {
        digits = z ++ l;
        long = length-append z l ∙ ap (λ (p : ℕ). 17 + p) (long_lo 47 le room w);
        small = rw (total-append z l) (omega arith);
        packed =
            value-append B z l ∙ ap (λ (p : ℕ). value B l * B ^ 17 + p) (value-zeros B 17) ∙ add-zero (value B l * B ^ 17)
            ∙ sym (ap (λ (p : ℕ). p * B ^ 17) (lo_is 47 le room w));
        held =
            word-append z l ∙ ap (λ (p : ℕ). word l * 2 ^ 17 + p) (word-zeros 17) ∙ add-zero (word l * 2 ^ 17)
            ∙ sym (shl_mod x 47 17 ∙ ap (λ (p : ℕ). p * 2 ^ 17) (word_lo 47 le room w));
      }

  -- the low n digits made 0 or 1
  abbrev reduced : ℕ → ℕ → ℕ
  reduced zero X = 0
  reduced (suc n) X = reduced n (X / B) * B + X % B % 2

  reduced_odd : (l : List ℕ) → value 1 l < B → reduced (length l) (value B l) ≡ value B (odd l)
  unfolding odd
  reduced_odd [] h = refl
  reduced_odd (a ∷ l) h =
      let t : value 1 l + a < B = rw (← mul-one (value 1 l)) h in
      let ha : a < B = omega arith in
      ap₂ (λ (p q : ℕ). reduced (length l) p * B + q % 2) (digits_div (value B l) ha) (digits_mod (value B l) ha)
      ∙ ap (λ (p : ℕ). p * B + a % 2) (reduced_odd l (omega arith))

  abbrev pub lowered : ℕ → ℕ
  lowered X = reduced 64 X

  pub holds_lowered : {m X x : ℕ} → m < B → Holds B m X x → Holds B 64 (lowered X) x
  holds_lowered room w =
      record {
        digits = odd w.digits;
        long = length_odd w.digits ∙ w.long;
        small = subst (λ (n : ℕ). value 1 (odd w.digits) ≤ n) w.long (odd_total w.digits);
        packed = sym (ap₂ reduced (sym w.long) (sym w.packed) ∙ reduced_odd w.digits (lt_of_le_of_lt w.small room));
        held = ap (value 2) (odd_odd w.digits) ∙ w.held;
      }

  -- ---- where nothing is left of the parities, the word is 0
  zero_word : (l : List ℕ) → 0 < B → value B l ≡ 0 → word l ≡ 0
  unfolding odd
  zero_word [] h e = refl
  zero_word (a ∷ l) h e =
      let z : a ≡ 0 = omega arith in
      let rest : value B l ≡ 0 = sym (digits_div (value B l) (omega arith)) ∙ ap (λ (x : ℕ). x / B) e ∙ zero-div B in
      ap₂ (λ (p r : ℕ). p * 2 + r % 2) (zero_word l h rest) z

  pub holds_nothing : {m X x : ℕ} → m < B → Holds B m X x → T (eqb (lowered X) 0) → x ≡ 0
  holds_nothing {X = X} room w t =
      let v = holds_lowered room w in
      sym v.held ∙ zero_word v.digits (omega arith) (v.packed ∙ eqb→eq (lowered X) 0 t)
