-- Laws of the writers, piece by piece. Assumes nothing.
use Rattle.std.proofs.Common.{◌++◌, take, drop, length-drop, append_assoc, sym, ap, ◌≡◌, ℕ, zero, suc, ◌+◌, ◌-◌, ◌/◌, ◌%◌, ◌^◌, ◌<◌, ◌≤◌, Bool, true, false, cond, eqb, leb, List, [], ◌∷◌, length, set, refl, ◌∙◌, arith, length-append, le-ltb, lt-ltb, eq-eqb, ne_eqb, le-leb}
use borrow.Author.Tests.{lt-leb, eqb-false}
use borrow.Rule.Slice.PartMut.{put_mid, post_of, Post-is}
use lib.Seq.{sets-eq, length-take-le}
use Rattle.base.specs.Stored.{stored}
use Rattle.base.proofs.Put.{put_nothing, put_then, put_length, given_yes, given_no, given_room}
use Rattle.base.specs.Put.{Put, given}
use Rattle.text.specs.decimal.Decimal.{decimal}
use Rattle.text.proofs.decimal.Decimal.{length_last, decimal-long}
use Rattle.text.proofs.decimal.Backward.{Backward, back_one}
use Rattle.text.specs.hexfloat.Text.{hex_digit, hex_padded, stripped, fraction, power, number, magnitude, minus, hex_text}

-- ---- digits
pub low_digit : (d : ℕ) → d < 10 → hex_digit d ≡ 48 + d
unfolding hex_digit
low_digit d h = rw (lt-ltb d 10 h) refl

pub high_digit : (d : ℕ) → 10 ≤ d → hex_digit d ≡ 87 + d
unfolding hex_digit
high_digit d h = rw (le-ltb d 10 h) refl

-- one digit, from the last to the first
pub back_hex : {v k at w j d : ℕ} {l out : List ℕ} → Backward 16 hex_digit v k at l w j out → 0 < j → d ≡ hex_digit (w % 16)
    → Backward 16 hex_digit v k at l (w / 16) (j - 1) (set out (at + (j - 1)) d)
back_hex {v} {k} {at} {w} {j} {d} {l} {out} B h e =
    let n : suc (j - 1) ≡ j = omega arith in
    rw e (back_one (rw (← n) at B))

-- ---- without the zeros at the end
pub stripped-step : (k w : ℕ) → 0 < k → w % 16 ≡ 0 → stripped k w ≡ stripped (k - 1) (w / 16)
unfolding stripped
stripped-step zero w p e = absurd (omega arith)
stripped-step (suc k) w p e =
    let n : suc k - 1 ≡ k = omega arith in
    rw (eq-eqb (w % 16) 0 e, n) refl

pub stripped_here : (k w : ℕ) → 0 < k → (w % 16 ≡ 0 → ⊥) → stripped k w ≡ hex_padded k w
unfolding stripped
stripped_here zero w p h = absurd (omega arith)
stripped_here (suc k) w p h = rw (ne_eqb (w % 16) 0 h) refl

pub stripped-none : (w : ℕ) → stripped 0 w ≡ []
unfolding stripped
stripped-none w = refl

pub stripped_few : (k w : ℕ) → length (stripped k w) ≤ k
unfolding stripped
stripped_few zero w = omega arith
stripped_few (suc k) w = go (eqb (w % 16) 0) (stripped_few k (w / 16)) (length_last 16 hex_digit (suc k) w)
  where
    go : (b : Bool) → length (stripped k (w / 16)) ≤ k → length (hex_padded (suc k) w) ≡ suc k → length (cond b (stripped k (w / 16)) (hex_padded (suc k) w)) ≤ suc k
    go true h g = omega arith
    go false h g = omega arith

-- the loop that leaves the zeros out and writes nothing: k digits of w are left
pub record Stripping (t : ℕ) (l l' : List ℕ) (w k : ℕ) : Type 0 where
  pub same : l' ≡ l
  pub upto : k ≤ 13
  pub left : stripped 13 t ≡ stripped k w

pub strip_more : {t w k : ℕ} {l l' : List ℕ} → Stripping t l l' w k → 0 < k → w % 16 ≡ 0 → Stripping t l l' (w / 16) (k - 1)
strip_more {t} {w} {k} S p e = record { same = S.same; upto = omega (arith, S.upto); left = S.left ∙ stripped-step k w p e }

pub strip_put : {t w k n at r : ℕ} {l l' l'' : List ℕ} → Stripping t l l' w k → n ≡ k → 0 < k → (w % 16 ≡ 0 → ⊥) → Put (hex_padded n w) at l' l'' r → Put (stripped 13 t) at l l'' r
strip_put {t} {w} {k} S e p h q = rw (S.left, stripped_here k w p h, ← e, ← S.same) q

pub strip_end : {t w k : ℕ} {l l' : List ℕ} (at : ℕ) → Stripping t l l' w k → k ≡ 0 → Put (stripped 13 t) at l l' at
strip_end {t} {w} {k} {l} {l'} at S z = rw (S.left, z, stripped-none w, S.same) (put_nothing at l)

-- ---- short texts: n bytes copied to a part of n places
pub all_written : (at n : ℕ) {l t new : List ℕ} → at + n ≤ length l → length new ≡ length (take (at + n - at) (drop at l)) → new ≡ t
    → Put t at l (put_mid at (at + n - at) l new) (at + n)
unfolding stored
all_written at n {l} {t} {new} h e q =
    let m : length t ≡ n = omega (arith, e, ap length q, length-take-le (at + n - at) (drop at l) (omega (arith, length-drop at l))) in
    let room : at + length t ≤ length l = omega arith in
    let rest : post_of at (at + n - at) l ≡ drop (at + length t) l = Post-is at (at + n) l (omega arith) ∙ ap (λ (k : ℕ). drop (at + k) l) (sym m) in
    record {
      next = ap (λ (k : ℕ). at + k) (sym m);
      made = (λ i. take at l ++ (q i ++ rest i)) ∙ sym (append_assoc (take at l) t (drop (at + length t) l)) ∙ sym (sets-eq t l at room);
    }

pub minus_yes : {at r : ℕ} {l l' : List ℕ} {s : Bool} → s ≡ true → Put (45 ∷ []) at l l' r → Put (minus s) at l l' r
unfolding minus
minus_yes e p = rw e p

pub minus_no : (at : ℕ) (l : List ℕ) {s : Bool} → s ≡ false → Put (minus s) at l l at
unfolding minus
minus_no at l e = rw e (put_nothing at l)

pub minus_few : (s : Bool) → length (minus s) ≤ 1
unfolding minus
minus_few true = omega arith
minus_few false = omega arith

-- ---- the fraction
pub fraction-none : (t at : ℕ) (l : List ℕ) → t ≡ 0 → Put (fraction t) at l l at
unfolding fraction
fraction-none t at l e = rw (eq-eqb t 0 e) (put_nothing at l)

pub fraction-some : {at m r : ℕ} {l l' l'' : List ℕ} (t : ℕ) → (t ≡ 0 → ⊥) → Put (46 ∷ []) at l l' m → Put (stripped 13 t) m l' l'' r → Put (fraction t) at l l'' r
unfolding fraction
fraction-some t h p q = rw (ne_eqb t 0 h) (put_then {t = 46 ∷ []} p q)

pub fraction_few : (t : ℕ) → length (fraction t) ≤ 14
unfolding fraction
fraction_few t = go (eqb t 0)
  where
    go : (b : Bool) → length (cond b [] (46 ∷ stripped 13 t)) ≤ 14
    go true = omega arith
    go false = omega (arith, stripped_few 13 t)

-- ---- the power
pub count_few : (n : ℕ) → n ≤ 1023 → length (decimal n) ≤ 4
count_few n h = decimal-long 3 n (omega arith)

-- the count behind p and a sign, for which there is room
counted : {at m r : ℕ} {l l' l'' : List ℕ} (a b n : ℕ) → n ≤ 1023 → at + 6 ≤ length l → Put (a ∷ b ∷ []) at l l' m
    → Put (given (leb (m + length (decimal n)) (length l')) (decimal n)) m l' l'' r → Put (a ∷ b ∷ decimal n) at l l'' r
counted a b n h g p q = put_then {t = a ∷ b ∷ []} p (given_room (decimal n) (omega (arith, count_few n h, p.next, put_length p)) q)

pub power_low : {at m r : ℕ} {l l' l'' : List ℕ} (e : ℕ) → e < 1023 → at + 6 ≤ length l → Put (112 ∷ 45 ∷ []) at l l' m
    → Put (given (leb (m + length (decimal (1023 - e))) (length l')) (decimal (1023 - e))) m l' l'' r → Put (power e) at l l'' r
unfolding power
power_low e h g p q = rw (lt-leb 1023 e h) (counted 112 45 (1023 - e) (omega arith) g p q)

pub power_high : {at m r : ℕ} {l l' l'' : List ℕ} (e : ℕ) → 1023 ≤ e → e < 2047 → at + 6 ≤ length l → Put (112 ∷ 43 ∷ []) at l l' m
    → Put (given (leb (m + length (decimal (e - 1023))) (length l')) (decimal (e - 1023))) m l' l'' r → Put (power e) at l l'' r
unfolding power
power_high e h b g p q = rw (le-leb 1023 e h) (counted 112 43 (e - 1023) (omega arith) g p q)

pub power_few : (e : ℕ) → e < 2047 → length (power e) ≤ 6
unfolding power
power_few e h = go (leb 1023 e)
  where
    go : (b : Bool) → length (112 ∷ cond b (43 ∷ decimal (e - 1023)) (45 ∷ decimal (1023 - e))) ≤ 6
    go true = omega (arith, count_few (e - 1023) (omega arith))
    go false = omega (arith, count_few (1023 - e) (omega arith))

-- what is left behind a text of at most j bytes
pub room_behind : {t : List ℕ} {at r j : ℕ} (k : ℕ) {l l' : List ℕ} → length t ≤ j → at + (j + k) ≤ length l → Put t at l l' r → r + k ≤ length l'
room_behind {t} {at} {r} {j} k {l} {l'} f h p = omega (arith, p.next, put_length p)

-- ---- a number
pub finite_put : {at m n r : ℕ} {l l₁ l₂ l₃ : List ℕ} (lead t e d : ℕ) → d ≡ 48 + lead
    → Put (48 ∷ 120 ∷ d ∷ []) at l l₁ m → Put (fraction t) m l₁ l₂ n → Put (power e) n l₂ l₃ r → Put (number lead t e) at l l₃ r
unfolding number
finite_put lead t e d q a b c = put_then {t = 48 ∷ 120 ∷ (48 + lead) ∷ []} (rw q at a) (put_then b c)

module _ (x t : ℕ) where
  pub is_inf : x ≡ 2047 → t ≡ 0 → magnitude x t ≡ 105 ∷ 110 ∷ 102 ∷ []
  unfolding magnitude
  is_inf e z = rw (eq-eqb x 2047 e, eq-eqb t 0 z) refl

  pub is_nan : x ≡ 2047 → (t ≡ 0 → ⊥) → magnitude x t ≡ 110 ∷ 97 ∷ 110 ∷ []
  unfolding magnitude
  is_nan e z = rw (eq-eqb x 2047 e, ne_eqb t 0 z) refl

  pub is_zero : (x ≡ 2047 → ⊥) → x ≡ 0 → t ≡ 0 → magnitude x t ≡ number 0 0 1023
  unfolding magnitude
  is_zero n e z = rw (ne_eqb x 2047 n, eq-eqb x 0 e, eq-eqb t 0 z) refl

  pub is_subnormal : (x ≡ 2047 → ⊥) → x ≡ 0 → (t ≡ 0 → ⊥) → magnitude x t ≡ number 0 t 1
  unfolding magnitude
  is_subnormal n e z = rw (ne_eqb x 2047 n, eq-eqb x 0 e, ne_eqb t 0 z) refl

  pub is_normal : (x ≡ 2047 → ⊥) → (x ≡ 0 → ⊥) → magnitude x t ≡ number 1 t x
  unfolding magnitude
  is_normal n e = rw (ne_eqb x 2047 n, ne_eqb x 0 e) refl

-- ---- the whole, where there is room
pub no_room : (b at : ℕ) (l : List ℕ) → length l < at + 24 → Put (given (leb (at + 24) (length l)) (hex_text b)) at l l at
no_room b at l h = given_no (hex_text b) at l (lt-leb (at + 24) (length l) h)

pub all_put : (b : ℕ) {at m r : ℕ} {l l₁ l₂ : List ℕ} → at + 24 ≤ length l → Put (minus (leb (2 ^ 63) b)) at l l₁ m
    → Put (magnitude (b % 2 ^ 63 / 2 ^ 52) (b % 2 ^ 52)) m l₁ l₂ r → Put (given (leb (at + 24) (length l)) (hex_text b)) at l l₂ r
unfolding hex_text
all_put b {at} {m} {r} {l} h p q = given_yes (le-leb (at + 24) (length l) h) (put_then p q)

-- ---- how long a text is
number_few : (lead t e : ℕ) → e < 2047 → length (number lead t e) ≤ 23
unfolding number
number_few lead t e h = omega (arith, length-append (fraction t) (power e), fraction_few t, power_few e h)

pub magnitude_few : (x t : ℕ) → x < 2048 → length (magnitude x t) ≤ 23
unfolding magnitude
magnitude_few x t h = go (eqb x 2047) refl (eqb t 0) (eqb x 0)
  where
    under : (x : ℕ) → (x ≡ 2047 → ⊥) → x < 2048 → x < 2047
    under x n g = omega arith

    go : (a : Bool) → eqb x 2047 ≡ a → (b c : Bool) → length (cond a (cond b (105 ∷ 110 ∷ 102 ∷ []) (110 ∷ 97 ∷ 110 ∷ [])) (cond c (cond b (number 0 0 1023) (number 0 t 1)) (number 1 t x))) ≤ 23
    go true e true c = omega arith
    go true e false c = omega arith
    go false e true true = number_few 0 0 1023 (omega arith)
    go false e false true = number_few 0 t 1 (omega arith)
    go false e b false = number_few 1 t x (under x (eqb-false x 2047 e) h)

pub text_few : (b : ℕ) → length (hex_text b) ≤ 24
unfolding hex_text
text_few b =
    omega (arith, length-append (minus (leb (2 ^ 63) b)) (magnitude (b % 2 ^ 63 / 2 ^ 52) (b % 2 ^ 52)), minus_few (leb (2 ^ 63) b), magnitude_few (b % 2 ^ 63 / 2 ^ 52) (b % 2 ^ 52) (omega arith))
