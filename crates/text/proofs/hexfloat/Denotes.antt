-- The text of a pattern denotes the pattern's value. Assumes nothing.
use Rattle.std.proofs.Common.{◌≡◌, ℕ, zero, suc, ◌+◌, ◌-◌, ◌*◌, ◌/◌, ◌%◌, ◌^◌, ◌<◌, ◌≤◌, Bool, true, false, cond, eqb, leb, List, ◌∷◌, ◌++◌, get_or, drop, sym, refl, ap, ◌∙◌, subst, lt_of_lt_of_le, le_of_lt, mul_assoc, mul_comm, mul-pos, pow-suc, mul-one, mul_right_comm, arith, pow_pos, pow_mono, pow-add, shl_lt, eqb-true, leb-false, leb-true}
use lib.Ieee.{Float, nan, inf, binary64, emax, low, odd, round, of_fields, of_bits}
use lib.Ieee.Exact.{round_exact, odd_sign}
use lib.Ieee.Fits.{odd-fits, round-fits}
use borrow.Author.Tests.{eqb-false}
use Rattle.text.specs.decimal.Decimal.{decimal}
use Rattle.text.specs.hexfloat.Text.{fraction, power, number, magnitude, minus, hex_text}
use Rattle.text.specs.hexfloat.Value.{digit_of, scaled, number_on, unsigned, value_of}
use Rattle.text.specs.hexfloat.Claims.{Denotes}
use Rattle.text.proofs.hexfloat.Laws.{is_inf, is_nan, is_zero, is_subnormal, is_normal}
use Rattle.text.proofs.hexfloat.Same.{same-value, rescale}
use Rattle.text.proofs.hexfloat.Reading.{count-decimal, read-fraction}

-- ---- powers
below_one : (w a b v Q M : ℕ) → a + b ≡ w → v * 2 ^ 52 ≡ Q * M → v * 2 ^ (52 + w) ≡ Q * 2 ^ a * (M * 2 ^ b)
below_one w a b v Q M e h =
    ap (λ (x : ℕ). v * x) (pow-add 2 52 w)
    ∙ sym (mul_assoc v (2 ^ 52) (2 ^ w))
    ∙ ap (λ (x : ℕ). x * 2 ^ w) h
    ∙ ap (λ (x : ℕ). Q * M * x) (ap (λ (x : ℕ). 2 ^ x) (sym e) ∙ pow-add 2 a b)
    ∙ sym (mul_assoc (Q * M) (2 ^ a) (2 ^ b))
    ∙ ap (λ (x : ℕ). x * 2 ^ b) (mul_right_comm Q M (2 ^ a))
    ∙ mul_assoc (Q * 2 ^ a) M (2 ^ b)

from_one : (w a b v Q M : ℕ) → a ≡ b + w → v * 2 ^ 52 ≡ Q * M → v * 2 ^ b * 2 ^ (52 + w) ≡ Q * 2 ^ a * M
from_one w a b v Q M e h =
    mul_right_comm v (2 ^ b) (2 ^ (52 + w))
    ∙ ap (λ (x : ℕ). v * x * 2 ^ b) (pow-add 2 52 w)
    ∙ ap (λ (x : ℕ). x * 2 ^ b) (sym (mul_assoc v (2 ^ 52) (2 ^ w)) ∙ ap (λ (x : ℕ). x * 2 ^ w) h)
    ∙ mul_assoc (Q * M) (2 ^ w) (2 ^ b)
    ∙ ap (λ (x : ℕ). Q * M * x) (mul_comm (2 ^ w) (2 ^ b) ∙ sym (pow-add 2 b w) ∙ ap (λ (x : ℕ). 2 ^ x) (sym e))
    ∙ mul_right_comm Q M (2 ^ a)

pow16 : (m : ℕ) → 0 < 16 ^ m
pow16 zero = omega arith
pow16 (suc m) = subst (λ (x : ℕ). 0 < x) (sym (pow-suc 16 m)) (mul-pos (pow16 m) (omega arith))

-- ---- a fraction that is Q * 2^a of the smallest values is read as that value
exact : (s : Bool) (num den Q a : ℕ) → 0 < den → Q < 2 ^ 53 → a ≤ 2045 → num * 2 ^ low binary64 ≡ Q * 2 ^ a * den → round binary64 s num den ≡ odd 53 s Q a (low binary64)
exact s num den Q a p h g e =
    let fine : Q * 2 ^ a < 2 ^ (low binary64 + suc (emax binary64)) = lt_of_lt_of_le (shl_lt 53 a h) (pow_mono (sum a g)) in
    same-value binary64 (round binary64 s num den) (odd 53 s Q a (low binary64)) s num den p (round-fits binary64 s num den)
    (odd-fits binary64 53 s Q a h (le_of_lt h) fine)
    (round_exact binary64 s num den Q a p h fine e)
    (rescale (odd 53 s Q a (low binary64)) s (Q * 2 ^ a) (2 ^ low binary64) num den (pow_pos (low binary64)) e (odd_sign 53 s Q a (low binary64)))
  where
    sum : (a : ℕ) → a ≤ 2045 → 53 + a ≤ 2098
    sum a g = omega arith

-- ---- the text of a finite number
abbrev tail : ℕ → List ℕ
tail e = cond (leb 1023 e) (43 ∷ decimal (e - 1023)) (45 ∷ decimal (1023 - e))

powered : (s : Bool) (v m Q e : ℕ) → 0 < e → e < 2047 → Q < 2 ^ 53 → v * 2 ^ 52 ≡ Q * 16 ^ m → scaled s v m (tail e) ≡ odd 53 s Q (e - 1) (low binary64)
unfolding scaled
powered s v m Q e p g h q = go (leb 1023 e) (le_or (leb 1023 e) refl)
  where
    le_or : (b : Bool) → leb 1023 e ≡ b → cond b (1023 ≤ e) (e < 1023)
    le_or true w = leb-true 1023 e w
    le_or false w = leb-false 1023 e w

    go : (b : Bool) → cond b (1023 ≤ e) (e < 1023) → scaled s v m (cond b (43 ∷ decimal (e - 1023)) (45 ∷ decimal (1023 - e))) ≡ odd 53 s Q (e - 1) (low binary64)
    go true w =
        ap (λ (x : ℕ). round binary64 s (v * 2 ^ x) (16 ^ m)) (count-decimal (e - 1023))
        ∙ exact s (v * 2 ^ (e - 1023)) (16 ^ m) Q (e - 1) (pow16 m) h (omega arith) (from_one 1022 (e - 1) (e - 1023) v Q (16 ^ m) (omega arith) q)
    go false w =
        ap (λ (x : ℕ). round binary64 s v (16 ^ m * 2 ^ x)) (count-decimal (1023 - e))
        ∙ exact s v (16 ^ m * 2 ^ (1023 - e)) Q (e - 1) (mul-pos (pow16 m) (pow_pos (1023 - e))) h (omega arith) (below_one 1022 (e - 1) (1023 - e) v Q (16 ^ m) (omega arith) q)

finite_on : (s : Bool) (lead t e : ℕ) → lead < 2 → t < 2 ^ 52 → 0 < e → e < 2047 → number_on s false lead 0 (fraction t ++ power e) ≡ odd 53 s (lead * 2 ^ 52 + t) (e - 1) (low binary64)
unfolding power
finite_on s lead t e l h p g =
    let r = read-fraction t s lead (tail e) h in
    r.is ∙ powered s r.v r.m (lead * 2 ^ 52 + t) e p g (omega arith) (sym (mul-one (r.v * 2 ^ 52)) ∙ r.same)

-- read without its sign, and no sign in front
record Said (s : Bool) (t : List ℕ) (x : Float) : Type 0 where
  value : unsigned s t ≡ x
  first : eqb (get_or t 0 0) 45 ≡ false

said_sub : (s : Bool) (t : ℕ) → t < 2 ^ 52 → Said s (number 0 t 1) (odd 53 s t 0 (low binary64))
unfolding unsigned number number_on digit_of
said_sub s t h =
    let e : 0 * 2 ^ 52 + t ≡ t = omega arith in
    record { value = finite_on s 0 t 1 (omega arith) h (omega arith) (omega arith) ∙ ap (λ (y : ℕ). odd 53 s y 0 (low binary64)) e; first = refl }

said_normal : (s : Bool) (t x : ℕ) → t < 2 ^ 52 → suc x < 2047 → Said s (number 1 t (suc x)) (odd 53 s (2 ^ 52 + t) x (low binary64))
unfolding unsigned number number_on digit_of
said_normal s t x h g =
    let e : suc x - 1 ≡ x = omega arith in
    record { value = finite_on s 1 t (suc x) (omega arith) h (omega arith) g ∙ ap (λ (y : ℕ). odd 53 s (2 ^ 52 + t) y (low binary64)) e; first = refl }

nought : (s : Bool) → odd 53 s 0 1022 (low binary64) ≡ odd 53 s 0 0 (low binary64)
unfolding odd
nought s = refl

said_zero : (s : Bool) → Said s (number 0 0 1023) (odd 53 s 0 0 (low binary64))
unfolding unsigned number number_on digit_of
said_zero s = record { value = finite_on s 0 0 1023 (omega arith) (omega arith) (omega arith) (omega arith) ∙ nought s; first = refl }

to : {s : Bool} {a b : List ℕ} {x y : Float} → a ≡ b → x ≡ y → Said s b y → Said s a x
to {s} {a} {b} {x} {y} e f g = record { value = ap (unsigned s) e ∙ g.value ∙ sym f; first = ap (λ (l : List ℕ). eqb (get_or l 0 0) 45) e ∙ g.first }

said : (s : Bool) (x t : ℕ) → x < 2048 → t < 2 ^ 52 → Said s (magnitude x t) (of_fields binary64 s x t)
unfolding of_fields unsigned
said s zero t g h = go (eqb t 0) refl
  where
    go : (b : Bool) → eqb t 0 ≡ b → Said s (magnitude 0 t) (odd 53 s t 0 (low binary64))
    go true w =
        let z = eqb-true t 0 w in
        to (is_zero 0 t (λ q. omega arith) refl z) (ap (λ (y : ℕ). odd 53 s y 0 (low binary64)) z) (said_zero s)
    go false w = to (is_subnormal 0 t (λ q. omega arith) refl (eqb-false t 0 w)) refl (said_sub s t h)
said s (suc x) t g h = go (eqb (suc x) 2047) refl (eqb t 0) refl
  where
    go : (b : Bool) → eqb (suc x) 2047 ≡ b → (c : Bool) → eqb t 0 ≡ c → Said s (magnitude (suc x) t) (cond b (cond c (inf s) nan) (odd 53 s (2 ^ 52 + t) x (low binary64)))
    go true w true z = to (is_inf (suc x) t (eqb-true (suc x) 2047 w) (eqb-true t 0 z)) refl (record { value = refl; first = refl })
    go true w false z = to (is_nan (suc x) t (eqb-true (suc x) 2047 w) (eqb-false t 0 z)) refl (record { value = refl; first = refl })
    go false w c z =
        let n = eqb-false (suc x) 2047 w in
        to (is_normal (suc x) t n (λ q. omega arith)) refl (said_normal s t x h (under x n g))
      where
        under : (x : ℕ) → (suc x ≡ 2047 → ⊥) → suc x < 2048 → suc x < 2047
        under x n g = omega arith

signed : (s : Bool) (l : List ℕ) (x : Float) → Said s l x → value_of (minus s ++ l) ≡ x
unfolding value_of minus
signed true l x g = g.value
signed false l x g = ap (λ (b : Bool). cond b (unsigned true (drop 1 l)) (unsigned false l)) g.first ∙ g.value

pub denotes : Denotes
unfolding hex_text of_bits
denotes b h = signed (leb (2 ^ 63) b) _ _ (said (leb (2 ^ 63) b) (b % 2 ^ 63 / 2 ^ 52) (b % 2 ^ 52) (omega arith) (omega arith))
