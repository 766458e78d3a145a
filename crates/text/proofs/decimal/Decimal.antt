-- A number's digits: one more, one less, how many there are, and a number in two parts. Assumes nothing.
use Rattle.std.proofs.Common.{◌≡◌, ℕ, zero, suc, ◌+◌, ◌*◌, ◌/◌, ◌%◌, ◌^◌, ◌<◌, ◌≤◌, List, [], ◌∷◌, ◌++◌, length, sym, refl, ap, ◌∙◌, append_assoc, append-nil, le_refl, mul_assoc, div-lt_iff_lt-mul, mul-pos, pow-suc, add-one, arith, length-append, le-ltb, lt-ltb}
use native.Mathlib.Decide.{dec_lt}
use Rattle.text.specs.decimal.Decimal.{decimal_on, decimal, last_digits, padded}

small : (k n : ℕ) → n < 10 → decimal_on k n ≡ (48 + n) ∷ []
unfolding decimal_on
small zero n h = refl
small (suc k) n h = rw (lt-ltb n 10 h, decimal_on) refl

more : (k n : ℕ) → 10 ≤ n → decimal_on (suc k) n ≡ decimal_on k (n / 10) ++ ((48 + n % 10) ∷ [])
unfolding decimal_on
more k n h = rw (le-ltb n 10 h, decimal_on) refl

same : (k j n : ℕ) → n ≤ k → n ≤ j → decimal_on k n ≡ decimal_on j n
same zero j n hk hj = small zero n (omega arith) ∙ sym (small j n (omega arith))
same (suc k) zero n hk hj = small (suc k) n (omega arith) ∙ sym (small zero n (omega arith))
same (suc k) (suc j) n hk hj = go (λ g h. same k j (n / 10) g h) (dec_lt n 10)
  where
    go : (n / 10 ≤ k → n / 10 ≤ j → decimal_on k (n / 10) ≡ decimal_on j (n / 10)) → Dec (n < 10) → decimal_on (suc k) n ≡ decimal_on (suc j) n
    go f (yes h) = small (suc k) n h ∙ sym (small (suc j) n h)
    go f (no h) =
        more k n (omega arith)
        ∙ ap (λ (l : List ℕ). l ++ ((48 + n % 10) ∷ [])) (f (omega arith) (omega arith))
        ∙ sym (more j n (omega arith))

pub decimal_small : (n : ℕ) → n < 10 → decimal n ≡ (48 + n) ∷ []
unfolding decimal
decimal_small n h = small n n h

pub decimal_more : (n : ℕ) → 10 ≤ n → decimal n ≡ decimal (n / 10) ++ ((48 + n % 10) ∷ [])
unfolding decimal
decimal_more zero h = absurd (omega arith)
decimal_more (suc k) h = more k (suc k) h ∙ ap (λ (l : List ℕ). l ++ ((48 + suc k % 10) ∷ [])) (same k (suc k / 10) (suc k / 10) (omega arith) (le_refl _))

-- one digit more, behind a number that isn't 0
pub decimal_digit : (v d : ℕ) → 0 < v → d < 10 → decimal (v * 10 + d) ≡ decimal v ++ ((48 + d) ∷ [])
decimal_digit v d hv hd =
    let q : (v * 10 + d) / 10 ≡ v = omega arith in
    let r : (v * 10 + d) % 10 ≡ d = omega arith in
    decimal_more (v * 10 + d) (omega arith) ∙ rw (q, r) refl

pub length_small : (n : ℕ) → n < 10 → length (decimal n) ≡ 1
length_small n h = ap length (decimal_small n h)

pub length_more : (n : ℕ) → 10 ≤ n → length (decimal n) ≡ length (decimal (n / 10)) + 1
length_more n h = ap length (decimal_more n h) ∙ length-append (decimal (n / 10)) _

-- four digits fewer, as the count goes
pub length_four : {w : ℕ} → 10000 ≤ w → length (decimal w) ≡ length (decimal (w / 10000)) + 4
length_four {w} h =
    let a : w / 10 / 10 / 10 / 10 ≡ w / 10000 = omega arith in
    length_more w (omega arith)
    ∙ ap (λ (n : ℕ). n + 1) (length_more (w / 10) (omega arith)
    ∙ ap (λ (n : ℕ). n + 1) (length_more (w / 10 / 10) (omega arith)
    ∙ ap (λ (n : ℕ). n + 1) (length_more (w / 10 / 10 / 10) (omega arith) ∙ ap (λ (n : ℕ). length (decimal n) + 1) a)))
    ∙ omega arith

pub length_two : {w : ℕ} → 10 ≤ w → w < 100 → length (decimal w) ≡ 2
length_two {w} h b = length_more w h ∙ ap (λ (n : ℕ). n + 1) (length_small (w / 10) (omega arith))

pub length_three : {w : ℕ} → 100 ≤ w → w < 1000 → length (decimal w) ≡ 3
length_three {w} h b = length_more w (omega arith) ∙ ap (λ (n : ℕ). n + 1) (length_two {w = w / 10} (omega arith) (omega arith))

pub length_of_four : {w : ℕ} → 1000 ≤ w → w < 10000 → length (decimal w) ≡ 4
length_of_four {w} h b = length_more w (omega arith) ∙ ap (λ (n : ℕ). n + 1) (length_three {w = w / 10} (omega arith) (omega arith))

pub length_last : (base : ℕ) (digit : ℕ → ℕ) (k n : ℕ) → length (last_digits base digit k n) ≡ k
unfolding last_digits
length_last base digit zero n = refl
length_last base digit (suc k) n =
    length-append (last_digits base digit k (n / base)) _ ∙ rw (length_last base digit k (n / base)) (omega arith)

pub length-padded : (k n : ℕ) → length (padded k n) ≡ k
length-padded k n = length_last 10 (λ d. 48 + d) k n

split_more : (x h l : ℕ) → 0 < x → (n : ℕ) → n ≡ x * 10 + l → (ds : List ℕ) → decimal (x + l / 10) ≡ decimal h ++ ds → decimal n ≡ decimal h ++ (ds ++ ((48 + l % 10) ∷ []))
split_more x h l p n e ds i =
    let q : n / 10 ≡ x + l / 10 = omega arith in
    let r : n % 10 ≡ l % 10 = omega arith in
    decimal_more n (omega arith) ∙ rw (q, r, i) (append_assoc (decimal h) ds _)

pos_pow : (k : ℕ) → 0 < 10 ^ k
pos_pow zero = omega arith
pos_pow (suc k) = rw pow-suc (omega (arith, pos_pow k))

-- the digits of h, and behind them the last k digits
pub decimal_split : (k h l : ℕ) → 0 < h → l < 10 ^ k → decimal (h * 10 ^ k + l) ≡ decimal h ++ padded k l
unfolding last_digits
decimal_split zero h l p b = ap decimal (omega arith) ∙ sym (append-nil (decimal h))
decimal_split (suc k) h l p b =
    let x = h * 10 ^ k in
    let e : h * 10 ^ suc k ≡ x * 10 = ap (λ (y : ℕ). h * y) (pow-suc 10 k) ∙ sym (mul_assoc h (10 ^ k) 10) in
    let s : l < 10 ^ k * 10 = rw pow-suc at b in
    split_more x h l (mul-pos p (pos_pow k)) (h * 10 ^ suc k + l) (ap (λ (y : ℕ). y + l) e) (padded k (l / 10)) (decimal_split k h (l / 10) p ((div-lt_iff_lt-mul (omega arith)).1 s))

pub decimal-long : (k n : ℕ) → n < 10 ^ suc k → length (decimal n) ≤ suc k
decimal-long zero n h = omega (arith, length_small n (omega arith))
decimal-long (suc k) n h = go (decimal-long k (n / 10) ((div-lt_iff_lt-mul (omega arith)).1 (rw pow-suc at h))) (dec_lt n 10)
  where
    go : length (decimal (n / 10)) ≤ suc k → Dec (n < 10) → length (decimal n) ≤ suc (suc k)
    go i (yes s) = omega (arith, length_small n s)
    go i (no s) = omega (arith, length_more n (omega arith))

-- a 64-bit number has 20 digits at most
pub length-word : (n : ℕ) → n < 2 ^ 64 → length (decimal n) ≤ 20
length-word n h = decimal-long 19 n (omega arith)

-- a number's own digits are its last ones, as many as it has
padded_small : (n : ℕ) → n < 10 → decimal n ≡ padded (length (decimal n)) n
unfolding last_digits
padded_small n h =
    let e : n % 10 ≡ n = omega arith in
    decimal_small n h ∙ rw (length_small n h, e) refl

padded_more : (n : ℕ) → 10 ≤ n → decimal (n / 10) ≡ padded (length (decimal (n / 10))) (n / 10) → decimal n ≡ padded (length (decimal n)) n
unfolding last_digits
padded_more n m f =
    decimal_more n m ∙ ap (λ (l : List ℕ). l ++ ((48 + n % 10) ∷ [])) f ∙ ap (λ (j : ℕ). padded j n) (sym (length_more n m ∙ add-one _))

padded_on : (k n : ℕ) → n ≤ k → decimal n ≡ padded (length (decimal n)) n
padded_on zero n h = padded_small n (omega arith)
padded_on (suc k) n h = go (padded_on k (n / 10)) (dec_lt n 10)
  where
    go : (n / 10 ≤ k → decimal (n / 10) ≡ padded (length (decimal (n / 10))) (n / 10)) → Dec (n < 10) → decimal n ≡ padded (length (decimal n)) n
    go f (yes s) = padded_small n s
    go f (no s) = padded_more n (omega arith) (f (omega arith))

pub decimal-padded : (n : ℕ) → decimal n ≡ padded (length (decimal n)) n
decimal-padded n = padded_on n n (le_refl n)
