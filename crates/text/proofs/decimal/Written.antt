-- Reading what was written: a number's digits in front of a byte that is no digit. Assumes nothing.
use Rattle.std.proofs.Common.{◌≡◌, ℕ, zero, suc, ◌+◌, ◌-◌, ◌*◌, ◌/◌, ◌%◌, ◌<◌, ◌≤◌, List, ◌∷◌, ◌++◌, length, refl, ap, ◌∙◌, append_assoc, le_refl, arith, eq-eqb, ne_eqb, le-leb}
use native.Mathlib.Decide.{dec_lt}
use Rattle.text.specs.decimal.Decimal.{decimal}
use Rattle.text.specs.decimal.Number.{read, number_on, number_from}
use Rattle.text.proofs.decimal.Decimal.{decimal_small, decimal_more, length_more}
use Rattle.text.proofs.decimal.Reading.{extends_yes}

on_digit : (top stop v i d : ℕ) (s : List ℕ) → stop < 48 → 0 < v → d < 10 → v * 10 + d ≤ top → number_on top stop v i ((48 + d) ∷ s) ≡ number_on top stop (v * 10 + d) (i + 1) s
unfolding number_on
on_digit top stop v i d s hs hv hd ht =
    let e : 48 + d - 48 ≡ d = omega arith in
    rw (ne_eqb (48 + d) stop (λ q. omega arith), le-leb 1 v hv, extends_yes top v (48 + d) (omega arith) (omega arith) (omega arith), e) refl

from_digit : (top stop i d : ℕ) (s : List ℕ) → d < 10 → d ≤ top → number_from top stop i ((48 + d) ∷ s) ≡ number_on top stop d (i + 1) s
unfolding number_from
from_digit top stop i d s hd ht =
    let e : 48 + d - 48 ≡ d = omega arith in
    rw (extends_yes top 0 (48 + d) (omega arith) (omega arith) (omega arith), e) refl

-- the digits of n are read as n, whatever follows
pub read-digits : (k top stop i n : ℕ) (s : List ℕ) → n ≤ k → stop < 48 → n ≤ top → number_from top stop i (decimal n ++ s) ≡ number_on top stop n (i + length (decimal n)) s
read-digits zero top stop i n s hk hs ht =
    rw (decimal_small n (omega arith)) (from_digit top stop i n s (omega arith) ht)
read-digits (suc k) top stop i n s hk hs ht = go (dec_lt n 10) (λ h. read-digits k top stop i (n / 10) ((48 + n % 10) ∷ s) h hs (omega arith))
  where
    go : Dec (n < 10) → (n / 10 ≤ k → number_from top stop i (decimal (n / 10) ++ ((48 + n % 10) ∷ s)) ≡ number_on top stop (n / 10) (i + length (decimal (n / 10))) ((48 + n % 10) ∷ s)) → number_from top stop i (decimal n ++ s) ≡ number_on top stop n (i + length (decimal n)) s
    go (yes h) f = rw (decimal_small n h) (from_digit top stop i n s h ht)
    go (no h) f =
        let m : 10 ≤ n = omega arith in
        let q : n / 10 * 10 + n % 10 ≡ n = omega arith in
        let l : i + length (decimal n) ≡ i + length (decimal (n / 10)) + 1 = omega (arith, length_more n m) in
        ap (λ (x : List ℕ). number_from top stop i (x ++ s)) (decimal_more n m)
        ∙ ap (number_from top stop i) (append_assoc (decimal (n / 10)) _ s)
        ∙ f (omega arith)
        ∙ on_digit top stop (n / 10) _ (n % 10) s hs (omega arith) (omega arith) (omega arith)
        ∙ rw (q, l) refl

-- a number that is written is read
pub read_written : (top stop i n : ℕ) (s : List ℕ) → stop < 48 → n ≤ top → number_from top stop i (decimal n ++ (stop ∷ s)) ≡ read n (i + length (decimal n) + 1)
unfolding number_on
read_written top stop i n s hs ht = read-digits n top stop i n (stop ∷ s) (le_refl n) hs ht ∙ rw (eq-eqb stop stop refl) refl
