-- The low two bits of the pattern of 4t + MAGIC are those of the whole number nearest to 4t, ties to even, for |4t| up to 2^(prec - 2). Once for both formats.
-- Assumes nothing.
use mathlib.Core.Path.{◌≡◌, refl, sym, ap, ◌∙◌, subst}
use mathlib.Core.Logic.{inl, inr}
use Prim.Native.Nat.{ℕ, zero, suc, ◌+◌, ◌-◌, ◌*◌, ◌/◌, ◌%◌, ◌^◌, ◌≤◌, ◌<◌, compare, Ordering}
use native.Mathlib.Nat.{le_trans, le_of_eq, le_antisymm, lt_of_lt_of_le, lt_of_le_of_lt, lt_of_not-le, not-le_of_lt, mul_comm, mul_assoc, mul-one, one-mul, zero-mul, add-mul, add_comm, add-zero, mul_right_comm, mul_left_comm, mul-pos, mul-le-mul_right, mul-lt-mul_of_pos_right, lt_of_mul-lt-mul_right, mul-div_cancel, mul-add-div_right, mul-add-mod_self_right, mod-eq_of_lt, div-eq_of_lt, div-add-mod', mod-lt, le-div_iff_mul-le, div-lt_iff_lt-mul, eq-zero-or-pos, eq-or-lt_of_le, div-one}
use native.Mathlib.Omega.{arith}
use borrow.Author.Tests.{lt-ltb}
use mathlib.Core.Bool.{Bool, true, false, not, cond}
use lib.IntN.{ℤ, pos}
use lib.Dec.{T, ltb, is_le, compare_is_eq, eqb, leb→le, nleb→lt, eqb→eq, eqb_refl, lit<, lit≤}
use lib.Arith.{lt_of_le-ne}
use lib.Pow.{pow-add, pow_pos, pow_mono}
use lib.Ieee.{Float, fin, Format, binary32, binary64, prec, emax, low, hid, top, up, down, size, nearest, units, round, to_bits, fits, unlike, mul, add, sum, inf, nan}
use lib.Ieee.Digits.{size-lt, size-le}
use lib.Ieee.Fits.{round_is, core, down_pos, nearest-le}
use Rattle.floats.proofs.units.Exact.{mul_values, sub_mul}
use Rattle.math.specs.Claims.{modulo4}
use Rattle.math.proofs.Values.{digits_lt, fine, exponent}
use lib.Ieee.Nearest.{closest, closest_same}
use lib.Ieee.Exact.{HasValue, units_val, round_exact}
use lib.Ieee.Scale.{round_same}

-- ---- the nearest whole number to w + r / c, to a whole even number more, and to a whole even number less
closest_of : (w r c : ℕ) → 0 < c → r < c → closest (w * c + r) c ≡ nearest w (compare (r * 2) c)
closest_of w r c C h =
    ap (λ (x : ℕ). nearest x (compare ((w * c + r) % c * 2) c)) (mul-add-div_right C w r ∙ ap (λ (x : ℕ). w + x) (div-eq_of_lt h) ∙ add-zero w)
    ∙ ap (λ (x : ℕ). nearest w (compare (x * 2) c)) (mul-add-mod_self_right w c r ∙ mod-eq_of_lt h)

more_even : (h q : ℕ) (o : Ordering) → nearest (2 * h + q) o ≡ 2 * h + nearest q o
more_even h q Ordering.lt = refl
more_even h q Ordering.eq = omega arith
more_even h q Ordering.gt = omega arith

abbrev Cmp : Ordering → ℕ → ℕ → Type 0
Cmp Ordering.lt a b = a < b
Cmp Ordering.eq a b = a ≡ b
Cmp Ordering.gt a b = b < a

cmp : (a b : ℕ) → Cmp (compare a b) a b
cmp a b = go (compare a b) (leb→le a b) (nleb→lt a b) (eqb→eq a b) (λ (e : a ≡ b). subst (λ (x : ℕ). T (eqb a x)) e (eqb_refl a))
  where
    go : (o : Ordering) → (T (is_le o) → a ≤ b) → (T (not (is_le o)) → b < a) → (T (compare_is_eq o) → a ≡ b) → (a ≡ b → T (compare_is_eq o)) → Cmp o a b
    go Ordering.lt h k e n = lt_of_le-ne (h tt) n
    go Ordering.eq h k e n = e tt
    go Ordering.gt h k e n = k tt

less_even : (h q w r c : ℕ) (o p : Ordering) → Cmp o (r * 2) c → Cmp p ((c - r) * 2) c → r < c → 2 * h ≡ w + q + 1 → nearest w p ≡ 2 * h - nearest q o
less_even h q w r c Ordering.lt Ordering.lt x y l e = omega arith
less_even h q w r c Ordering.lt Ordering.eq x y l e = omega arith
less_even h q w r c Ordering.lt Ordering.gt x y l e = omega arith
less_even h q w r c Ordering.eq Ordering.lt x y l e = omega arith
less_even h q w r c Ordering.eq Ordering.eq x y l e = omega arith
less_even h q w r c Ordering.eq Ordering.gt x y l e = omega arith
less_even h q w r c Ordering.gt Ordering.lt x y l e = omega arith
less_even h q w r c Ordering.gt Ordering.eq x y l e = omega arith
less_even h q w r c Ordering.gt Ordering.gt x y l e = omega arith

split : (a c : ℕ) → a ≡ a / c * c + a % c
split a c = sym (div-add-mod' a c)

pub closest_plus : (h a c : ℕ) → 0 < c → closest (2 * h * c + a) c ≡ 2 * h + closest a c
closest_plus h a c C =
    let q = a / c in
    let r = a % c in
    let e : 2 * h * c + a ≡ (2 * h + q) * c + r = ap (λ (x : ℕ). 2 * h * c + x) (split a c) ∙ sym (assoc (2 * h * c) (q * c) r) ∙ ap (λ (x : ℕ). x + r) (sym (add-mul (2 * h) q c)) in
    ap (λ (x : ℕ). closest x c) e ∙ closest_of (2 * h + q) r c C (mod-lt a C) ∙ more_even h q (compare (r * 2) c)
  where
    assoc : (x y z : ℕ) → x + y + z ≡ x + (y + z)
    assoc x y z = omega arith

times : (x w q c : ℕ) → x ≡ w + q + 1 → x * c ≡ w * c + q * c + c
times x w q c e = ap (λ (z : ℕ). z * c) e ∙ add-mul (w + q) 1 c ∙ ap (λ (z : ℕ). z + 1 * c) (add-mul w q c) ∙ ap (λ (z : ℕ). w * c + q * c + z) (one-mul c)

minus-part : (h q w r c : ℕ) → 0 < r → r < c → 2 * h ≡ w + q + 1 → closest (2 * h * c - (q * c + r)) c ≡ 2 * h - nearest q (compare (r * 2) c)
minus-part h q w r c p l e =
    let t = times (2 * h) w q c e in
    let d : 2 * h * c - (q * c + r) ≡ w * c + (c - r) = cut (2 * h * c) (q * c) (w * c) t in
    ap (λ (x : ℕ). closest x c) d ∙ closest_of w (c - r) c (omega arith) (omega arith) ∙ less_even h q w r c (compare (r * 2) c) (compare ((c - r) * 2) c) (cmp (r * 2) c) (cmp ((c - r) * 2) c) l e
  where
    cut : (X Q W : ℕ) → X ≡ W + Q + c → X - (Q + r) ≡ W + (c - r)
    cut X Q W t = omega arith

-- nothing is left over
at_zero : (w c : ℕ) → 0 < c → closest (w * c + 0) c ≡ w
at_zero w c C = closest_of w 0 c C C ∙ go (compare 0 c) (cmp 0 c)
  where
    go : (o : Ordering) → Cmp o 0 c → nearest w o ≡ w
    go Ordering.lt x = refl
    go Ordering.eq x = omega arith
    go Ordering.gt x = omega arith

minus-whole : (x q c : ℕ) → 0 < c → q ≤ x → closest (x * c - (q * c + 0)) c ≡ x - q
minus-whole x q c C l = ap (λ (z : ℕ). closest z c) (ap (λ (z : ℕ). x * c - z) (add-zero (q * c)) ∙ sym (sub_mul x q c) ∙ sym (add-zero ((x - q) * c))) ∙ at_zero (x - q) c C

pub closest_minus : (h a c : ℕ) → 0 < c → a < 2 * h * c → closest (2 * h * c - a) c ≡ 2 * h - closest a c
closest_minus h a c C l =
    let q-lt : a / c < 2 * h = (div-lt_iff_lt-mul C).1 l in
    let r-lt : a % c < c = mod-lt a C in
    elim (eq-zero-or-pos (a % c)) [
      | inl z ↦
          let e : a ≡ a / c * c + 0 = split a c ∙ ap (λ (x : ℕ). a / c * c + x) z in
          ap (λ (x : ℕ). closest (2 * h * c - x) c) e ∙ minus-whole (2 * h) (a / c) c C (omega arith)
          ∙ ap (λ (x : ℕ). 2 * h - x) (sym (ap (λ (x : ℕ). closest x c) e ∙ at_zero (a / c) c C))
      | inr p ↦
          ap (λ (x : ℕ). closest (2 * h * c - x) c) (split a c)
          ∙ minus-part h (a / c) (2 * h - a / c - 1) (a % c) c p r-lt (omega arith)
    ]

-- ---- a fraction whose whole part has just the format's digits is rounded to the nearest whole number
size_is : (x p : ℕ) → 0 < p → 2 ^ (p - 1) ≤ x → x < 2 ^ p → size x ≡ p
size_is x p P lo hi = le_antisymm (size-le x p hi) (all (size x) p P (lt_of_not-le (λ (g : size x ≤ p - 1). not-le_of_lt (lt_of_lt_of_le (size-lt x) (pow_mono g)) lo)))
  where
    all : (z p : ℕ) → 0 < p → p - 1 < z → p ≤ z
    all z p P h = omega arith

prec_pos : (f : Format) → 0 < prec f
prec_pos binary32 = lit< tt
prec_pos binary64 = lit< tt

scaled-size : (x p l den : ℕ) → 0 < p → 0 < den → 2 ^ (p - 1) * den ≤ x → x < 2 ^ p * den → size (x * 2 ^ l / den) ≡ p + l
scaled-size x p l den P D lo hi =
    size_is (x * 2 ^ l / den) (p + l) (omega arith)
    ((le-div_iff_mul-le D).1 (le_trans (le_of_eq (ap (λ (z : ℕ). 2 ^ z * den) (one_off p l P) ∙ ap (λ (z : ℕ). z * den) (pow-add 2 (p - 1) l) ∙ mul_right_comm (2 ^ (p - 1)) (2 ^ l) den)) (mul-le-mul_right (2 ^ l) lo)))
    ((div-lt_iff_lt-mul D).1 (lt_of_lt_of_le (mul-lt-mul_of_pos_right hi (pow_pos l)) (le_of_eq (mul_right_comm (2 ^ p) den (2 ^ l) ∙ ap (λ (z : ℕ). z * den) (sym (pow-add 2 p l))))))
  where
    one_off : (p l : ℕ) → 0 < p → p + l - 1 ≡ p - 1 + l
    one_off p l P = omega arith

round_there : (f : Format) (num den : ℕ) → 0 < den → 2 ^ (prec f - 1) * den ≤ num → num < 2 ^ prec f * den → round f false num den ≡ units f false (closest num den) (low f)
round_there f num den D lo hi =
    let l = low f in
    let n = num * 2 ^ l in
    let k : size (n / den) - prec f ≡ l = ap (λ (z : ℕ). z - prec f) (scaled-size num (prec f) l den (prec_pos f) D lo hi) ∙ rest (prec f) l in
    round_is f false num den
    ∙ ap (λ (z : ℕ). core f false n den z) k
    ∙ ap (λ (z : ℕ). units f false z l) (closest_same n (den * 2 ^ l) num den (mul-pos D (pow_pos l)) D (mul_assoc num (2 ^ l) den ∙ ap (λ (z : ℕ). num * z) (mul_comm (2 ^ l) den)))
  where
    rest : (p l : ℕ) → p + l - p ≡ l
    rest p l = omega arith

-- ---- the pattern of such a whole number ends in the number's own two bits
to_bits_of : (f : Format) (x : Float) (N : ℕ) → HasValue x false (N * 2 ^ low f) (2 ^ low f) → to_bits f x ≡ 0 + (size (N * 2 ^ low f) - prec f) * hid f + N * 2 ^ low f / 2 ^ (size (N * 2 ^ low f) - prec f)
unfolding to_bits
to_bits_of f (fin t m e) N v =
    ap (λ (b : Bool). cond b (top f) 0 + (size (m * up e * 2 ^ low f / down e) - prec f) * hid f + m * up e * 2 ^ low f / down e / 2 ^ (size (m * up e * 2 ^ low f / down e) - prec f)) v.0
    ∙ ap (λ (n : ℕ). 0 + (size n - prec f) * hid f + n / 2 ^ (size n - prec f)) (ap (λ (z : ℕ). z / down e) v.1 ∙ mul-div_cancel (N * 2 ^ low f) (down_pos e))
to_bits_of f nan N v = elim v [ ]
to_bits_of f (inf _) N v = elim v [ ]

within : (f : Format) (N : ℕ) → 2 ^ (prec f - 1) ≤ N → N < 2 ^ prec f → (0 + (size (N * 2 ^ low f) - prec f) * hid f + N * 2 ^ low f / 2 ^ (size (N * 2 ^ low f) - prec f)) % 4 ≡ N % 4
within f N lo hi =
    let l = low f in
    let z : size (N * 2 ^ l) ≡ prec f + l =
    ap size (sym (div-one (N * 2 ^ l))) ∙ scaled-size N (prec f) l 1 (prec_pos f) (pow_pos 0) (le_trans (le_of_eq (mul-one (2 ^ (prec f - 1)))) lo) (lt_of_lt_of_le hi (le_of_eq (sym (mul-one (2 ^ prec f))))) in
    ap (λ (s : ℕ). (0 + (s - prec f) * hid f + N * 2 ^ l / 2 ^ (s - prec f)) % 4) z
    ∙ ap (λ (k : ℕ). (0 + k * hid f + N * 2 ^ l / 2 ^ k) % 4) (rest (prec f) l)
    ∙ ap (λ (q : ℕ). (0 + l * hid f + q) % 4) (mul-div_cancel N (pow_pos l))
    ∙ ends f N
  where
    rest : (p l : ℕ) → p + l - p ≡ l
    rest p l = omega arith

    ends : (f : Format) (N : ℕ) → (0 + low f * hid f + N) % 4 ≡ N % 4
    ends binary32 N = omega arith
    ends binary64 N = omega arith

at_top : (f : Format) → (0 + (size (2 ^ prec f * 2 ^ low f) - prec f) * hid f + 2 ^ prec f * 2 ^ low f / 2 ^ (size (2 ^ prec f * 2 ^ low f) - prec f)) % 4 ≡ 2 ^ prec f % 4
unfolding size
at_top binary32 = refl
at_top binary64 = refl

bits_there : (f : Format) (N : ℕ) → 2 ^ (prec f - 1) ≤ N → N ≤ 2 ^ prec f → to_bits f (units f false N (low f)) % 4 ≡ N % 4
bits_there f N lo hi =
    ap (λ (z : ℕ). z % 4) (to_bits_of f (units f false N (low f)) N (units_val f false N (low f) (lt_of_le_of_lt (mul-le-mul_right (2 ^ low f) hi) (room f))))
    ∙ elim (eq-or-lt_of_le hi) [
      | inl e ↦ subst (λ (n : ℕ). (0 + (size (n * 2 ^ low f) - prec f) * hid f + n * 2 ^ low f / 2 ^ (size (n * 2 ^ low f) - prec f)) % 4 ≡ n % 4) (sym e) (at_top f)
      | inr h ↦ within f N lo h
    ]
  where
    room : (f : Format) → 2 ^ prec f * 2 ^ low f < 2 ^ (low f + suc (emax f))
    room binary32 = lit< tt
    room binary64 = lit< tt

-- ---- four times a value that fits is exact, below 2^(prec - 2)
abbrev pub four : Float
four = fin false 1 (pos 2)

-- 1.5 * 2^(prec - 1), and half of it
abbrev pub magic : Format → Float
magic binary32 = fin false 3 (pos 22)
magic binary64 = fin false 3 (pos 51)

abbrev pub half : Format → ℕ
half f = 3 * 2 ^ (prec f - 3)

unlike_false : (s : Bool) → unlike false s ≡ s
unlike_false true = refl
unlike_false false = refl

fourth_room : (f : Format) → prec f - 2 + low f ≤ low f + suc (emax f)
fourth_room binary32 = lit≤ tt
fourth_room binary64 = lit≤ tt

fourth : (f : Format) (s : Bool) (m : ℕ) (e : ℤ) → T (fits f (fin s m e)) → 4 * (m * up e) < 2 ^ (prec f - 2) * down e → HasValue (mul f four (fin s m e)) s (4 * (m * up e)) (down e)
fourth f s m e t small =
    subst (λ (x : Float). HasValue x s (4 * (m * up e)) (down e)) (sym is) (go m t small)
  where
    is : mul f four (fin s m e) ≡ round f s (4 * (m * up e)) (down e)
    is = mul_values f four (fin s m e) false s 4 1 (m * up e) (down e) (pow_pos 0) (down_pos e) (refl, refl) (refl, refl)
        ∙ ap (λ (b : Bool). round f b (4 * (m * up e)) (1 * down e)) (unlike_false s)
        ∙ ap (λ (d : ℕ). round f s (4 * (m * up e)) d) (one-mul (down e))

    go : (m : ℕ) → T (fits f (fin s m e)) → 4 * (m * up e) < 2 ^ (prec f - 2) * down e → HasValue (round f s (4 * (m * up e)) (down e)) s (4 * (m * up e)) (down e)
    go zero t small =
        round_exact f s (4 * (0 * up e)) (down e) 0 0 (down_pos e) (pow_pos (prec f)) (pow_pos (low f + suc (emax f)))
        (ap (λ (z : ℕ). 4 * z * 2 ^ low f) (zero-mul (up e)) ∙ zero-mul (2 ^ low f) ∙ sym (zero-mul (down e)))
    go (suc m) t small =
        let x = exponent 2 e (low f) (fine f s m e t) in
        let j = x.0 in
        let l = low f in
        let eq : 4 * (suc m * up e) * 2 ^ l ≡ suc m * 2 ^ j * down e =
        ap (λ (z : ℕ). z * 2 ^ l) (mul_left_comm 4 (suc m) (up e)) ∙ mul_assoc (suc m) (4 * up e) (2 ^ l) ∙ ap (λ (z : ℕ). suc m * z) x.1 ∙ sym (mul_assoc (suc m) (2 ^ j) (down e)) in
        let lt1 : suc m * 2 ^ j * down e < 2 ^ (prec f - 2) * down e * 2 ^ l = subst (λ (z : ℕ). z < 2 ^ (prec f - 2) * down e * 2 ^ l) eq (mul-lt-mul_of_pos_right small (pow_pos l)) in
        let le1 : 2 ^ (prec f - 2) * down e * 2 ^ l ≤ 2 ^ (l + suc (emax f)) * down e =
        le_trans (le_of_eq (mul_right_comm (2 ^ (prec f - 2)) (down e) (2 ^ l) ∙ ap (λ (z : ℕ). z * down e) (sym (pow-add 2 (prec f - 2) l)))) (mul-le-mul_right (down e) (pow_mono (fourth_room f))) in
        round_exact f s (4 * (suc m * up e)) (down e) (suc m) j (down_pos e) (digits_lt f s (suc m) e t) (lt_of_mul-lt-mul_right (down e) (lt_of_lt_of_le lt1 le1)) eq

-- ---- a sum with MAGIC
magic-value : (f : Format) (c : ℕ) → HasValue (magic f) false (2 * half f * c) c
magic-value binary32 c = (refl, sym (mul-one (2 * half binary32 * c)))
magic-value binary64 c = (refl, sym (mul-one (2 * half binary64 * c)))

-- the numerator of b / c ± a / c
abbrev pub shifted : Bool → ℕ → ℕ → ℕ
shifted true a b = b - a
shifted false a b = b + a

sum_values : (f : Format) (u : Bool) (A B D a b c : ℕ) → 0 < D → 0 < c → a < b → A * c ≡ a * D → B * c ≡ b * D → sum f u A false B D ≡ round f false (shifted u a b) c
unfolding sum
sum_values f false A B D a b c P C l p q =
    round_same f false (A + B) D (b + a) c P C
    (add-mul A B c ∙ ap (λ (z : ℕ). z + B * c) p ∙ ap (λ (z : ℕ). a * D + z) q ∙ add_comm (a * D) (b * D) ∙ sym (add-mul b a D))
sum_values f true A B D a b c P C l p q =
    let o : A < B = lt_of_mul-lt-mul_right c (lt_of_le_of_lt (le_of_eq p) (lt_of_lt_of_le (mul-lt-mul_of_pos_right l P) (le_of_eq (sym q)))) in
    ap (λ (t : Bool). cond t (round f false (B - A) D) (round f (ltb B A) (A - B) D)) (lt-ltb A B o)
    ∙ round_same f false (B - A) D (b - a) c P C (sub_mul B A c ∙ ap (λ (z : ℕ). z - A * c) q ∙ ap (λ (z : ℕ). b * D - z) p ∙ sym (sub_mul b a D))

add_values : (f : Format) (x y : Float) (s : Bool) (a b c : ℕ) → 0 < c → a < b → HasValue x s a c → HasValue y false b c → add f x y ≡ round f false (shifted s a b) c
unfolding add
add_values f (fin s m e) (fin t n g) u a b c C l h k =
    let A = m * up e * down g in
    let B = n * up g * down e in
    let D = down e * down g in
    ap (λ (z : Bool). sum f z A t B D) h.0 ∙ ap (λ (z : Bool). sum f u A z B D) k.0
    ∙ sum_values f u A B D a b c (mul-pos (down_pos e) (down_pos g)) C l
    (mul_right_comm (m * up e) (down g) c ∙ ap (λ (z : ℕ). z * down g) h.1 ∙ mul_assoc a (down e) (down g))
    (mul_right_comm (n * up g) (down e) c ∙ ap (λ (z : ℕ). z * down e) k.1 ∙ mul_assoc b (down g) (down e) ∙ ap (λ (z : ℕ). b * z) (mul_comm (down g) (down e)))
add_values f nan y u a b c C l h k = elim h [ ]
add_values f (inf _) y u a b c C l h k = elim h [ ]
add_values f (fin s m e) nan u a b c C l h k = elim k [ ]
add_values f (fin s m e) (inf _) u a b c C l h k = elim k [ ]

-- ---- the law
-- b = 3u, with u = 2^(prec - 2)
halves : (f : Format) → (2 * half f ≡ 3 * 2 ^ (prec f - 2)) × (2 ^ (prec f - 1) ≡ 2 * 2 ^ (prec f - 2)) × (2 ^ prec f ≡ 4 * 2 ^ (prec f - 2)) × (2 * half f % 4 ≡ 0)
halves binary32 = (refl, refl, refl, refl)
halves binary64 = (refl, refl, refl, refl)

pub closest_le : (a c u : ℕ) → 0 < c → a < u * c → closest a c ≤ u
closest_le a c u C l = le_trans (nearest-le (a / c) (compare (a % c * 2) c)) ((div-lt_iff_lt-mul C).1 l)

-- the same, times c
scaled_halves : (f : Format) (c : ℕ) → (2 * half f * c ≡ 3 * (2 ^ (prec f - 2) * c)) × (2 ^ (prec f - 1) * c ≡ 2 * (2 ^ (prec f - 2) * c)) × (2 ^ prec f * c ≡ 4 * (2 ^ (prec f - 2) * c))
scaled_halves f c =
    let h = halves f in
    let u = 2 ^ (prec f - 2) in (
      ap (λ (z : ℕ). z * c) h.0 ∙ mul_assoc 3 u c,
      ap (λ (z : ℕ). z * c) h.1 ∙ mul_assoc 2 u c,
      ap (λ (z : ℕ). z * c) h.2 ∙ mul_assoc 4 u c,
    )

nearest_whole : (f : Format) (s : Bool) (a c : ℕ) → 0 < c → a < 2 ^ (prec f - 2) * c → closest (shifted s a (2 * half f * c)) c ≡ shifted s (closest a c) (2 * half f)
nearest_whole f false a c C l = closest_plus (half f) a c C
nearest_whole f true a c C l = closest_minus (half f) a c C (less (2 * half f * c) (2 ^ (prec f - 2) * c) (scaled_halves f c).0 l)
  where
    less : (b x : ℕ) → b ≡ 3 * x → a < x → a < b
    less b x e l = omega arith

bounds : (s : Bool) (a x b lo hi : ℕ) → a < x → b ≡ 3 * x → lo ≡ 2 * x → hi ≡ 4 * x → (lo ≤ shifted s a b) × (shifted s a b < hi)
bounds false a x b lo hi l p q r = (omega arith, omega arith)
bounds true a x b lo hi l p q r = (omega arith, omega arith)

bounds_le : (s : Bool) (n u b lo hi : ℕ) → n ≤ u → b ≡ 3 * u → lo ≡ 2 * u → hi ≡ 4 * u → (lo ≤ shifted s n b) × (shifted s n b ≤ hi)
bounds_le false n u b lo hi l p q r = (omega arith, omega arith)
bounds_le true n u b lo hi l p q r = (omega arith, omega arith)

low_two : (s : Bool) (n u b : ℕ) → n ≤ u → b ≡ 3 * u → b % 4 ≡ 0 → shifted s n b % 4 ≡ modulo4 s n
low_two false n u b l p q = omega arith
low_two true n u b l p q = omega arith

-- `closest a c` is the whole number nearest to a / c, ties to even. The value t is ± m * 2^e, so 4t is ± a / c with a = 4 * (m * up e)
-- and c = down e. The sum 4t + MAGIC is that number more or less than MAGIC, in units of the format's smallest value.
abbrev pub total : Format → Bool → ℕ → ℤ → ℕ
total f s m e = shifted s (closest (4 * (m * up e)) (down e)) (2 * half f)

pub sum_is : (f : Format) (s : Bool) (m : ℕ) (e : ℤ) → T (fits f (fin s m e)) → 4 * (m * up e) < 2 ^ (prec f - 2) * down e
    → add f (mul f four (fin s m e)) (magic f) ≡ units f false (total f s m e) (low f)
sum_is f s m e t l =
    let a = 4 * (m * up e) in
    let c = down e in
    let u = 2 ^ (prec f - 2) in
    let b = 2 * half f in
    let C = down_pos e in
    let k = scaled_halves f c in
    let w = bounds s a (u * c) (b * c) (2 ^ (prec f - 1) * c) (2 ^ prec f * c) l k.0 k.1 k.2 in
    add_values f (mul f four (fin s m e)) (magic f) s a (b * c) c C (under (b * c) (u * c) a k.0 l)
    (fourth f s m e t l) (magic-value f c)
    ∙ round_there f (shifted s a (b * c)) c C w.0 w.1
    ∙ ap (λ (x : ℕ). units f false x (low f)) (nearest_whole f s a c C l)
  where
    under : (b x a : ℕ) → b ≡ 3 * x → a < x → a < b
    under b x a e l = omega arith

pub total_bounds : (f : Format) (s : Bool) (m : ℕ) (e : ℤ) → 4 * (m * up e) < 2 ^ (prec f - 2) * down e
    → (2 ^ (prec f - 1) ≤ total f s m e) × (total f s m e ≤ 2 ^ prec f)
total_bounds f s m e l =
    let h = halves f in
    let a = 4 * (m * up e) in
    let u = 2 ^ (prec f - 2) in
    let n-le = closest_le a (down e) u (down_pos e) l in
    bounds_le s (closest a (down e)) u (2 * half f) (2 ^ (prec f - 1)) (2 ^ prec f) n-le h.0 h.1 h.2

pub quarter : (f : Format) (s : Bool) (m : ℕ) (e : ℤ) → T (fits f (fin s m e)) → 4 * (m * up e) < 2 ^ (prec f - 2) * down e
    → to_bits f (add f (mul f four (fin s m e)) (magic f)) % 4 ≡ modulo4 s (closest (4 * (m * up e)) (down e))
quarter f s m e t l =
    let a = 4 * (m * up e) in
    let u = 2 ^ (prec f - 2) in
    let h = halves f in
    let v = total_bounds f s m e l in
    ap (λ (x : Float). to_bits f x % 4) (sum_is f s m e t l)
    ∙ bits_there f (total f s m e) v.0 v.1
    ∙ low_two s (closest a (down e)) u (2 * half f) (closest_le a (down e) u (down_pos e) l) h.0 h.3
