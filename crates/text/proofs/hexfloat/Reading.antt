-- Reading a number that was written. Assumes nothing.
use Rattle.std.proofs.Common.{◌≡◌, ℕ, zero, suc, ◌+◌, ◌-◌, ◌*◌, ◌/◌, ◌%◌, ◌^◌, ◌<◌, ◌≤◌, Bool, true, false, cond, eqb, List, [], ◌∷◌, ◌++◌, sym, refl, ap, ◌∙◌, ap₂, append_assoc, le_refl, add-zero, mul_assoc, mul_comm, div-lt_iff_lt-mul, add-mul, pow-suc, zero-add, zero-mul, mul-one, mul_right_comm, arith, pow-add, ne_eqb, eqb-true, le-leb}
use native.Mathlib.Decide.{dec_lt}
use lib.Ieee.{Float}
use borrow.Author.Tests.{lt-leb}
use Rattle.text.specs.decimal.Decimal.{decimal, last_digits}
use Rattle.text.proofs.decimal.Decimal.{decimal_small, decimal_more}
use Rattle.text.specs.hexfloat.Text.{hex_digit, hex_padded, stripped, fraction}
use Rattle.text.specs.hexfloat.Value.{digit_of, count_of, scaled, number_on}
use Rattle.text.proofs.hexfloat.Laws.{low_digit, high_digit}

-- ---- a decimal number
count_last : (v : ℕ) (a : List ℕ) (c : ℕ) → count_of v (a ++ (c ∷ [])) ≡ count_of v a * 10 + (c - 48)
unfolding count_of
count_last v [] c = refl
count_last v (b ∷ a) c = count_last (v * 10 + (b - 48)) a c

count_on : (k n : ℕ) → n ≤ k → count_of 0 (decimal n) ≡ n
unfolding count_of
count_on zero n h = let e : n ≡ 0 = omega arith in rw (e, decimal_small 0 (omega arith)) refl
count_on (suc k) n h = go (dec_lt n 10) (count_on k (n / 10))
  where
    go : Dec (n < 10) → (n / 10 ≤ k → count_of 0 (decimal (n / 10)) ≡ n / 10) → count_of 0 (decimal n) ≡ n
    go (yes s) f = ap (count_of 0) (decimal_small n s) ∙ small n
      where
        small : (n : ℕ) → 0 * 10 + (48 + n - 48) ≡ n
        small n = omega arith
    go (no s) f =
        ap (count_of 0) (decimal_more n (omega arith)) ∙ count_last 0 (decimal (n / 10)) (48 + n % 10) ∙ ap (λ (x : ℕ). x * 10 + (48 + n % 10 - 48)) (f (omega arith)) ∙ back n
      where
        back : (n : ℕ) → n / 10 * 10 + (48 + n % 10 - 48) ≡ n
        back n = omega arith

pub count-decimal : (n : ℕ) → count_of 0 (decimal n) ≡ n
count-decimal n = count_on n n (le_refl n)

-- ---- a hexadecimal digit: what it stands for, and that it is neither the point nor p
pub record Digit (d : ℕ) : Type 0 where
  pub back : digit_of (hex_digit d) ≡ d
  pub no_point : eqb (hex_digit d) 46 ≡ false
  pub no_p : eqb (hex_digit d) 112 ≡ false

low_is : (d : ℕ) → d < 10 → Digit d
unfolding digit_of
low_is d h =
    let e : 48 + d - 48 ≡ d = omega arith in
    record {
      back = rw (low_digit d h, le-leb (48 + d) 57 (omega arith)) e;
      no_point = rw (low_digit d h) (ne_eqb (48 + d) 46 (λ q. omega arith));
      no_p = rw (low_digit d h) (ne_eqb (48 + d) 112 (λ q. omega arith));
    }

high_is : (d : ℕ) → 10 ≤ d → d ≤ 15 → Digit d
unfolding digit_of
high_is d h g =
    let e : 87 + d - 87 ≡ d = omega arith in
    record {
      back = rw (high_digit d h, lt-leb (87 + d) 57 (omega arith)) e;
      no_point = rw (high_digit d h) (ne_eqb (87 + d) 46 (λ q. omega arith));
      no_p = rw (high_digit d h) (ne_eqb (87 + d) 112 (λ q. omega arith));
    }

is_digit : (d : ℕ) → d ≤ 15 → Digit d
is_digit d h = go (dec_lt d 10)
  where
    go : Dec (d < 10) → Digit d
    go (yes s) = low_is d s
    go (no s) = high_is d (omega arith) h

-- x is v / 16^m, scaled by the power of the text rest; and v / 16^m is (q + u / 2^52) / 16^n
pub record Read (s : Bool) (q n u : ℕ) (rest : List ℕ) (x : Float) : Type 0 where
  pub v : ℕ
  pub m : ℕ
  pub is : x ≡ scaled s v m rest
  pub same : v * 2 ^ 52 * 16 ^ n ≡ (q * 2 ^ 52 + u) * 16 ^ m

read_none : (s : Bool) (q n u : ℕ) (rest : List ℕ) → u ≡ 0 → Read s q n u rest (number_on s true q n (112 ∷ rest))
unfolding number_on
read_none s q n u rest e = record { v = q; m = n; is = refl; same = ap (λ (x : ℕ). x * 16 ^ n) (plus (q * 2 ^ 52) u e) }
  where
    plus : (a u : ℕ) → u ≡ 0 → a ≡ a + u
    plus a u e = omega arith

-- one digit
on_digit : (s : Bool) (q n d : ℕ) (t : List ℕ) → d ≤ 15 → number_on s true q n (hex_digit d ∷ t) ≡ number_on s true (q * 16 + d) (n + 1) t
unfolding number_on
on_digit s q n d t h = let i = is_digit d h in rw (i.no_point, i.no_p, i.back) refl

-- the last k digits of w
on_padded : (s : Bool) (q n k w : ℕ) (t : List ℕ) → w < 16 ^ k → number_on s true q n (hex_padded k w ++ t) ≡ number_on s true (q * 16 ^ k + w) (n + k) t
unfolding last_digits
on_padded s q n zero w t h = (λ i. number_on s true (e i) (m i) t)
  where
    none : (w : ℕ) → w < 1 → w ≡ 0
    none w h = omega arith

    e : q ≡ q * 16 ^ 0 + w
    e = sym (mul-one q) ∙ sym (add-zero (q * 1)) ∙ ap (λ (x : ℕ). q * 1 + x) (sym (none w h))

    m : n ≡ n + 0
    m = sym (add-zero n)
on_padded s q n (suc k) w t h =
    ap (number_on s true q n) (append_assoc (hex_padded k (w / 16)) (hex_digit (w % 16) ∷ []) t)
    ∙ on_padded s q n k (w / 16) (hex_digit (w % 16) ∷ t) ((div-lt_iff_lt-mul (omega arith)).1 (rw pow-suc at h))
    ∙ on_digit s (q * 16 ^ k + w / 16) (n + k) (w % 16) t (omega arith)
    ∙ (λ i. number_on s true (e i) (m i) t)
  where
    join : (x w : ℕ) → (x + w / 16) * 16 + w % 16 ≡ x * 16 + w
    join x w = omega arith

    e : (q * 16 ^ k + w / 16) * 16 + w % 16 ≡ q * 16 ^ suc k + w
    e = join (q * 16 ^ k) w ∙ ap (λ (x : ℕ). x + w) (mul_assoc q (16 ^ k) 16 ∙ ap (λ (x : ℕ). q * x) (sym (pow-suc 16 k)))

    m : n + k + 1 ≡ n + suc k
    m = omega arith

-- q and k digits w behind it, where j zeros were left out, are q + t / 2^52
whole : (q w t j k : ℕ) → j + k ≡ 13 → t ≡ w * 16 ^ j → (q * 16 ^ k + w) * 2 ^ 52 * 16 ^ 0 ≡ (q * 2 ^ 52 + t) * 16 ^ k
whole q w t j k e h =
    let p : 2 ^ 52 ≡ 16 ^ j * 16 ^ k = ap (λ (x : ℕ). 16 ^ x) (sym e) ∙ pow-add 16 j k in
    mul-one ((q * 16 ^ k + w) * 2 ^ 52)
    ∙ add-mul (q * 16 ^ k) w (2 ^ 52)
    ∙ ap₂ (λ (x y : ℕ). x + y) (mul_right_comm q (16 ^ k) (2 ^ 52)) (ap (λ (x : ℕ). w * x) p ∙ sym (mul_assoc w (16 ^ j) (16 ^ k)) ∙ ap (λ (x : ℕ). x * 16 ^ k) (sym h))
    ∙ sym (add-mul (q * 2 ^ 52) t (16 ^ k))

module _ (s : Bool) (q t : ℕ) (rest : List ℕ) where
  read-stripped : (k j w : ℕ) → j + k ≡ 13 → t ≡ w * 16 ^ j → w < 16 ^ k → Read s q 0 t rest (number_on s true q 0 (stripped k w ++ (112 ∷ rest)))
  unfolding stripped number_on
  read-stripped zero j w e h b = read_none s q 0 t rest (h ∙ ap (λ (x : ℕ). x * 16 ^ j) (none w b) ∙ zero-mul (16 ^ j))
    where
      none : (w : ℕ) → w < 1 → w ≡ 0
      none w h = omega arith
  read-stripped (suc k) j w e h b = go (eqb (w % 16) 0) refl (read-stripped k (suc j) (w / 16) (omega arith))
    where
      shorter : w % 16 ≡ 0 → t ≡ w / 16 * 16 ^ suc j
      shorter z =
          let d : w ≡ w / 16 * 16 = omega arith in
          h ∙ ap (λ (x : ℕ). x * 16 ^ j) d ∙ mul_assoc (w / 16) 16 (16 ^ j) ∙ ap (λ (x : ℕ). w / 16 * x) (mul_comm 16 (16 ^ j) ∙ sym (pow-suc 16 j))

      go : (c : Bool) → eqb (w % 16) 0 ≡ c
          → (t ≡ w / 16 * 16 ^ suc j → w / 16 < 16 ^ k → Read s q 0 t rest (number_on s true q 0 (stripped k (w / 16) ++ (112 ∷ rest))))
          → Read s q 0 t rest (number_on s true q 0 (cond c (stripped k (w / 16)) (hex_padded (suc k) w) ++ (112 ∷ rest)))
      go true z f = f (shorter (eqb-true (w % 16) 0 z)) ((div-lt_iff_lt-mul (omega arith)).1 (rw pow-suc at b))
      go false z f = record { v = q * 16 ^ suc k + w; m = suc k; is = on_padded s q 0 (suc k) w (112 ∷ rest) b ∙ ap (λ (x : ℕ). number_on s true (q * 16 ^ suc k + w) x (112 ∷ rest)) (zero-add (suc k)); same = whole q w t j (suc k) e h }

-- a point and the digits, or nothing
pub read-fraction : (t : ℕ) (s : Bool) (q : ℕ) (rest : List ℕ) → t < 2 ^ 52 → Read s q 0 t rest (number_on s false q 0 (fraction t ++ (112 ∷ rest)))
unfolding fraction number_on
read-fraction t s q rest h = go (eqb t 0) refl
  where
    go : (b : Bool) → eqb t 0 ≡ b → Read s q 0 t rest (number_on s false q 0 (cond b [] (46 ∷ stripped 13 t) ++ (112 ∷ rest)))
    go true w = read_none s q 0 t rest (eqb-true t 0 w)
    go false w = read-stripped s q t rest 13 0 t refl (sym (mul-one t)) h
