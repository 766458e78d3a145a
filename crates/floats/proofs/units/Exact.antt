-- Products and differences of dyadic fractions that the format holds: nothing is rounded. Stated once over the format. Assumes nothing.
use mathlib.Core.Path.{◌≡◌, refl, sym, ap, ◌∙◌, subst}
use Prim.Native.Nat.{ℕ, suc, ◌+◌, ◌-◌, ◌*◌, ◌/◌, ◌%◌, ◌^◌, ◌≤◌, ◌<◌}
use native.Mathlib.Nat.{lt_of_le_of_lt, lt_of_mul-lt-mul_right, mul-lt-mul_of_pos_right}
use native.Mathlib.Nat.{le_trans, le_of_eq, not-le_of_lt, le_of_mul-le-mul_right, mul-le-mul_right, mul_comm, mul_assoc, mul-one, one-mul, mul-pos, mul-mul-mul_comm, mul_right_comm, lt_of_lt_of_le, zero-lt-suc, eq-or-lt_of_le, mul-sub, eq_of_mul-eq-mul_right}
use borrow.Author.Tests.{lt-leb, le-ltb, lt-ltb}
use native.Mathlib.Omega.{arith}
use mathlib.Core.Logic.{◌⊎◌, inl, inr}
use mathlib.Core.Bool.{Bool, true, false, cond, not, true≢false}
use lib.Bits.{bit_or, or_shifted_r}
use lib.IntN.{ℤ, pos}
use lib.Dec.{T, ltb, leb, ltb→lt, le→leb, lit<, lit≤}
use lib.Pow.{pow-add, pow_pos, pow_mono, pow-lt, shl_lt}
use lib.Ieee.{Float, fin, Format, binary32, binary64, prec, emax, low, up, down, unlike, round, mul, sub, sum, of_int, inf, nan}
use lib.Ieee.{in_float, hid, ones, top, odd, of_fields, of_bits, nan_bits}
use lib.Ieee.Bits.{nan_bits_above}
use lib.Ieee.Fits.{down_pos}
use lib.Ieee.Exact.{HasValue, round_exact, odd_sign}
use lib.Ieee.Scale.{round_same}
use lib.Ieee.Back.{round_whole}
use Rattle.floats.specs.units.Unit.{dyadic, Exactly}

back : (l k : ℕ) → k ≤ l → l - k + k ≡ l
back l k h = omega arith

-- ---- n / 2^k is a value of the format where n has no more digits than the format keeps and 2^-k is no smaller than the smallest value
held : (f : Format) (n k : ℕ) → n < 2 ^ prec f → k ≤ low f → HasValue (round f false n (2 ^ k)) false n (2 ^ k)
held f n k h l =
    let j = low f - k in
    round_exact f false n (2 ^ k) n j (pow_pos k) h
    (lt_of_lt_of_le (shl_lt (prec f) j h) (pow_mono (room f k l)))
    (ap (λ (x : ℕ). n * 2 ^ x) (sym (back (low f) k l)) ∙ ap (λ (x : ℕ). n * x) (pow-add 2 j k) ∙ sym (mul_assoc n (2 ^ j) (2 ^ k)))
  where
    room : (f : Format) (k : ℕ) → k ≤ low f → prec f + (low f - k) ≤ low f + suc (emax f)
    room binary32 k l = omega arith
    room binary64 k l = omega arith

-- the least power of two with one digit too many is a value too
held_top : (f : Format) (k : ℕ) → k ≤ low f → HasValue (round f false (2 ^ prec f) (2 ^ k)) false (2 ^ prec f) (2 ^ k)
held_top f k l =
    let j = prec f + (low f - k) in
    round_exact f false (2 ^ prec f) (2 ^ k) 1 j (pow_pos k) (one_lt f)
    (subst (λ (x : ℕ). x < 2 ^ (low f + suc (emax f))) (sym (one-mul (2 ^ j))) (pow-lt (room f k l)))
    (sym (pow-add 2 (prec f) (low f)) ∙ ap (λ (x : ℕ). 2 ^ x) (sums (prec f) (low f) k l) ∙ pow-add 2 j k ∙ ap (λ (x : ℕ). x * 2 ^ k) (sym (one-mul (2 ^ j))))
  where
    one_lt : (f : Format) → 1 < 2 ^ prec f
    one_lt binary32 = lit< tt
    one_lt binary64 = lit< tt

    room : (f : Format) (k : ℕ) → k ≤ low f → prec f + (low f - k) < low f + suc (emax f)
    room binary32 k l = omega arith
    room binary64 k l = omega arith

    sums : (p w k : ℕ) → k ≤ w → p + w ≡ p + (w - k) + k
    sums p w k l = omega arith

pub dyadic-value : (f : Format) (n k : ℕ) → n ≤ 2 ^ prec f → k ≤ low f → HasValue (dyadic f n k) false n (2 ^ k)
unfolding dyadic
dyadic-value f n k h l = go (eq-or-lt_of_le h)
  where
    go : (n ≡ 2 ^ prec f) ⊎ (n < 2 ^ prec f) → HasValue (round f false n (2 ^ k)) false n (2 ^ k)
    go (inl e) = subst (λ (x : ℕ). HasValue (round f false x (2 ^ k)) false x (2 ^ k)) (sym e) (held_top f k l)
    go (inr m) = held f n k m l

-- a product of two values, by any fractions that they equal
pub mul_values : (f : Format) (x y : Float) (s t : Bool) (a c b d : ℕ) → 0 < c → 0 < d → HasValue x s a c → HasValue y t b d → mul f x y ≡ round f (unlike s t) (a * b) (c * d)
unfolding mul
mul_values f (fin s m e) (fin t n g) s' t' a c b d C D h k =
    ap (λ (u : Bool). round f (unlike u t) (m * up e * (n * up g)) (down e * down g)) h.0
    ∙ ap (λ (u : Bool). round f (unlike s' u) (m * up e * (n * up g)) (down e * down g)) k.0
    ∙ round_same f (unlike s' t') (m * up e * (n * up g)) (down e * down g) (a * b) (c * d) (mul-pos (down_pos e) (down_pos g)) (mul-pos C D)
    (mul-mul-mul_comm (m * up e) (n * up g) c d ∙ ap (λ (z : ℕ). z * (n * up g * d)) h.1 ∙ ap (λ (z : ℕ). a * down e * z) k.1 ∙ mul-mul-mul_comm a (down e) b (down g))
mul_values f nan y s' t' a c b d C D h k = elim h [ ]
mul_values f (inf _) y s' t' a c b d C D h k = elim h [ ]
mul_values f (fin s m e) nan s' t' a c b d C D h k = elim k [ ]
mul_values f (fin s m e) (inf _) s' t' a c b d C D h k = elim k [ ]

-- ---- a difference a / c - b / c, not negative and negative
pub sub_mul : (a b c : ℕ) → (a - b) * c ≡ a * c - b * c
sub_mul a b c = mul_comm (a - b) c ∙ mul-sub c a b ∙ ap (λ (z : ℕ). z - c * b) (mul_comm c a) ∙ ap (λ (z : ℕ). a * c - z) (mul_comm c b)

pick : (f : Format) (a b c : ℕ) → b ≤ a → sum f false a true b c ≡ round f false (a - b) c
unfolding sum
pick f a b c h = go (ltb a b) (ltb→lt a b)
  where
    go : (t : Bool) → (T t → a < b) → cond t (round f true (b - a) c) (round f false (a - b) c) ≡ round f false (a - b) c
    go true k = absurd (not-le_of_lt (k tt) h)
    go false k = refl

-- a value a / c as a fraction over both denominators
over_both : (m : ℕ) (e g : ℤ) (a c : ℕ) → m * up e * c ≡ a * down e → m * up e * down g * c ≡ a * (down e * down g)
over_both m e g a c h = mul_right_comm (m * up e) (down g) c ∙ ap (λ (z : ℕ). z * down g) h ∙ mul_assoc a (down e) (down g)

pub sub_values : (f : Format) (x y : Float) (a b c : ℕ) → 0 < c → b ≤ a → HasValue x false a c → HasValue y false b c
    → sub f x y ≡ round f false (a - b) c
unfolding sub
sub_values f (fin false m e) (fin false n g) a b c C l h k =
    let A = m * up e * down g in
    let B = n * up g * down e in
    let D = down e * down g in
    let p : A * c ≡ a * D = over_both m e g a c h.1 in
    let q : B * c ≡ b * D = over_both n g e b c k.1 ∙ ap (λ (z : ℕ). b * z) (mul_comm (down g) (down e)) in
    let o : B ≤ A = le_of_mul-le-mul_right (le_trans (le_of_eq q) (le_trans (mul-le-mul_right D l) (le_of_eq (sym p)))) C in
    pick f A B D o
    ∙ round_same f false (A - B) D (a - b) c (mul-pos (down_pos e) (down_pos g)) C
    (sub_mul A B c ∙ ap (λ (z : ℕ). z - B * c) p ∙ ap (λ (z : ℕ). a * D - z) q ∙ sym (sub_mul a b D))
sub_values f (fin true m e) y a b c C l h k = absurd (true≢false h.0)
sub_values f (fin false m e) (fin true n g) a b c C l h k = absurd (true≢false k.0)
sub_values f nan y a b c C l h k = elim h [ ]
sub_values f (inf _) y a b c C l h k = elim h [ ]
sub_values f (fin false m e) nan a b c C l h k = elim k [ ]
sub_values f (fin false m e) (inf _) a b c C l h k = elim k [ ]

pub sub_less : (f : Format) (x y : Float) (a b c : ℕ) → 0 < c → a < b → HasValue x false a c → HasValue y false b c
    → sub f x y ≡ round f true (b - a) c
unfolding sub sum
sub_less f (fin false m e) (fin false n g) a b c C l h k =
    let A = m * up e * down g in
    let B = n * up g * down e in
    let D = down e * down g in
    let P = mul-pos (down_pos e) (down_pos g) in
    let p : A * c ≡ a * D = over_both m e g a c h.1 in
    let q : B * c ≡ b * D = over_both n g e b c k.1 ∙ ap (λ (z : ℕ). b * z) (mul_comm (down g) (down e)) in
    let o : A < B =
    lt_of_mul-lt-mul_right c (lt_of_le_of_lt (le_of_eq p) (lt_of_lt_of_le (mul-lt-mul_of_pos_right l P) (le_of_eq (sym q)))) in
    ap (λ (t : Bool). cond t (round f true (B - A) D) (round f false (A - B) D)) (lt-ltb A B o)
    ∙ round_same f true (B - A) D (b - a) c P C
    (sub_mul B A c ∙ ap (λ (z : ℕ). z - A * c) q ∙ ap (λ (z : ℕ). b * D - z) p ∙ sym (sub_mul b a D))
sub_less f (fin true m e) y a b c C l h k = absurd (true≢false h.0)
sub_less f (fin false m e) (fin true n g) a b c C l h k = absurd (true≢false k.0)
sub_less f nan y a b c C l h k = elim h [ ]
sub_less f (inf _) y a b c C l h k = elim h [ ]
sub_less f (fin false m e) nan a b c C l h k = elim k [ ]
sub_less f (fin false m e) (inf _) a b c C l h k = elim k [ ]

-- ---- the laws that the functions cite
-- a result that is the rounded fraction is the fraction
pub exactly : (f : Format) (n k : ℕ) (x : Float) → n ≤ 2 ^ prec f → k ≤ low f → x ≡ dyadic f n k → Exactly f n k x
exactly f n k x h l e = record { is = e; value = subst (λ (y : Float). HasValue y false n (2 ^ k)) (sym e) (dyadic-value f n k h l) }

pub in_float_lem : (f : Format) (n : ℕ) → n ≤ 2 ^ prec f → T (in_float f (pos n))
unfolding in_float
in_float_lem f n h = le→leb n (2 ^ prec f) h

-- an integer as a float, times 2^-k
pub scaled : (f : Format) (n k : ℕ) → n ≤ 2 ^ prec f → k ≤ low f → Exactly f n k (mul f (of_int f (pos n)) (dyadic f 1 k))
unfolding dyadic of_int
scaled f n k h l =
    exactly f n k (mul f (of_int f (pos n)) (dyadic f 1 k)) h l
    (mul_values f (round f false n 1) (round f false 1 (2 ^ k)) false false n 1 1 (2 ^ k) (zero-lt-suc 0) (pow_pos k) (round_whole f false n h) (dyadic-value f 1 k (one_le f) l)
    ∙ ap (λ (x : ℕ). round f false x (1 * 2 ^ k)) (mul-one n)
    ∙ ap (λ (x : ℕ). round f false n x) (one-mul (2 ^ k)))
  where
    one_le : (f : Format) → 1 ≤ 2 ^ prec f
    one_le binary32 = lit≤ tt
    one_le binary64 = lit≤ tt

-- a difference of two fractions over 2^k
pub lessened : (f : Format) (x y : Float) (a b k : ℕ) → a - b ≤ 2 ^ prec f → k ≤ low f → b ≤ a → HasValue x false a (2 ^ k) → HasValue y false b (2 ^ k) → Exactly f (a - b) k (sub f x y)
unfolding dyadic
lessened f x y a b k h l o p q = exactly f (a - b) k (sub f x y) h l (sub_values f x y a b (2 ^ k) (pow_pos k) o p q)

-- 1, over 2^k
pub one_value : (k : ℕ) → HasValue (fin false 1 (pos 0)) false (2 ^ k) (2 ^ k)
one_value k = (refl, one-mul (2 ^ k) ∙ sym (mul-one (2 ^ k)))

-- ---- the pattern of 1 with the digits t set is 1 + t / hid
pub rescale : (x : Float) (s : Bool) (w l num den : ℕ) → 0 < l → num * l ≡ w * den → HasValue x s w l → HasValue x s num den
rescale (fin t m e) s w l num den p h v = (
  v.0,
  eq_of_mul-eq-mul_right l p (m * up e * den) (num * down e)
      (mul_right_comm (m * up e) den l
      ∙ ap (λ (x : ℕ). x * den) v.1
      ∙ mul_right_comm w (down e) den
      ∙ ap (λ (x : ℕ). x * down e) (sym h)
      ∙ mul_right_comm num l (down e)),
)
rescale nan s w l num den p h v = elim v [ ]
rescale (inf _) s w l num den p h v = elim v [ ]

fields : (f : Format) (t : ℕ) → t < hid f → (leb (top f) (emax f * hid f + t) ≡ false) × ((emax f * hid f + t) % top f / hid f ≡ emax f) × ((emax f * hid f + t) % hid f ≡ t)
fields binary32 t h = (lt-leb (top binary32) (emax binary32 * hid binary32 + t) (omega arith), omega arith, omega arith)
fields binary64 t h = (lt-leb (top binary64) (emax binary64 * hid binary64 + t) (omega arith), omega arith, omega arith)

opened : (f : Format) (t : ℕ) → of_fields f false (emax f) t ≡ odd (prec f) false (hid f + t) (emax f - 1) (low f)
unfolding of_fields
opened binary32 t = refl
opened binary64 t = refl

weights : (f : Format) → 2 ^ low f ≡ 2 ^ (emax f - 1) * hid f
weights binary32 = refl
weights binary64 = refl

pub above-one : (f : Format) (t : ℕ) → t < hid f → HasValue (of_bits f (emax f * hid f + t)) false (hid f + t) (hid f)
unfolding of_bits
above-one f t h =
    let b = emax f * hid f + t in
    let e = fields f t h in
    let is : of_bits f b ≡ odd (prec f) false (hid f + t) (emax f - 1) (low f) =
    ap (λ (s : Bool). of_fields f s (b % top f / hid f) (b % hid f)) e.0
    ∙ ap (λ (x : ℕ). of_fields f false x (b % hid f)) e.1
    ∙ ap (λ (x : ℕ). of_fields f false (emax f) x) e.2
    ∙ opened f t in
    subst (λ (x : Float). HasValue x false (hid f + t) (hid f)) (sym is)
    (rescale (odd (prec f) false (hid f + t) (emax f - 1) (low f)) false ((hid f + t) * 2 ^ (emax f - 1)) (2 ^ low f) (hid f + t) (hid f) (pow_pos (low f))
    (ap (λ (x : ℕ). (hid f + t) * x) (weights f) ∙ sym (mul_assoc (hid f + t) (2 ^ (emax f - 1)) (hid f)))
    (odd_sign (prec f) false (hid f + t) (emax f - 1) (low f)))

-- ---- as the functions make it: the digits t set in the pattern of 1 by a bitwise or
pub with_digits : (f : Format) (t : ℕ) → t < hid f → bit_or t (emax f * hid f) ≡ emax f * hid f + t
with_digits f t h = or_shifted_r (emax f) (prec f - 1) t h

-- it is no NaN's
pub is_number : (f : Format) (t : ℕ) → t < hid f → T (not (nan_bits f (bit_or t (emax f * hid f))))
is_number f t h =
    let b = emax f * hid f + t in
    subst (λ (n : ℕ). T (not (nan_bits f n))) (sym (with_digits f t h))
    (subst (λ (u : Bool). T (not u)) (sym (nan_bits_above f b ∙ le-ltb (ones f * hid f) (b % top f) (below f t h))) tt)
  where
    below : (f : Format) (t : ℕ) → t < hid f → (emax f * hid f + t) % top f ≤ ones f * hid f
    below binary32 t h = omega arith
    below binary64 t h = omega arith

-- 1 + t / hid, less the fraction c / 2^k, is n / 2^k: nothing is rounded where the format keeps n
pub down_from : (f : Format) (t k n c : ℕ) (y : Float) → t < hid f → k ≤ low f → n ≤ 2 ^ prec f
    → (n + c) * hid f ≡ (hid f + t) * 2 ^ k → HasValue y false c (2 ^ k) → Exactly f n k (sub f (of_bits f (bit_or t (emax f * hid f))) y)
down_from f t k n c y h l b e v =
    let x = of_bits f (emax f * hid f + t) in
    let above : HasValue x false (n + c) (2 ^ k) = rescale x false (hid f + t) (hid f) (n + c) (2 ^ k) (pow_pos (prec f - 1)) e
    (above-one f t h) in
    let less : n + c - c ≡ n = omega arith in
    subst (λ (p : ℕ). Exactly f n k (sub f (of_bits f p) y)) (sym (with_digits f t h))
    (subst (λ (m : ℕ). Exactly f m k (sub f x y)) less
    (lessened f x y (n + c) c k (subst (λ (m : ℕ). m ≤ 2 ^ prec f) (sym less) b) l (omega arith) above v))
