-- A test of every element of a table, by the test of each. Assumes nothing.
use Rattle.std.proofs.Common.{◌≡◌, ℕ, zero, suc, ◌<◌, Bool, true, false, ◌&&◌, T, eqb, List, [], ◌∷◌, length, get_or, replicate, arith, sym, refl, ap, ◌∙◌, subst, ap₂, suc-le-suc, le_of_suc-le-suc, not-suc-le-zero, zero-lt-suc}
use mathlib.Core.Bool.{and-false, false≢true}
use lib.Pointwise.{pointwise}
use Rattle.base.specs.Every.{every}
use Rattle.base.specs.Table.{table}
use Rattle.base.proofs.Every.{every-table}

pub and_both : (a b : Bool) → a && b ≡ true → (a ≡ true) × (b ≡ true)
and_both true b e = (refl, e)
and_both false b e = absurd (false≢true e)

is_true : (b : Bool) → T b → b ≡ true
is_true true t = refl
is_true false t = absurd t

module _ {A : Type 0} (p : A → Bool) where
  pub all_pass : (n : ℕ) (f : ℕ → A) → ((i : ℕ) → i < n → p (f i) ≡ true) → every p (table n f) ≡ true
  unfolding table
  all_pass zero f h = refl
  all_pass (suc n) f h = ap₂ ◌&&◌ (h 0 (zero-lt-suc n)) (all_pass n (λ i. f (suc i)) (λ i l. h (suc i) (suc-le-suc l)))

  pub one_fails : (n : ℕ) (f : ℕ → A) (i : ℕ) → i < n → p (f i) ≡ false → every p (table n f) ≡ false
  unfolding table
  one_fails zero f i l e = absurd (not-suc-le-zero l)
  one_fails (suc n) f zero l e = ap (λ (b : Bool). b && every p (table n (λ i. f (suc i)))) e
  one_fails (suc n) f (suc i) l e = ap (λ (b : Bool). p (f 0) && b) (one_fails n (λ j. f (suc j)) i (le_of_suc-le-suc l) e) ∙ and-false (p (f 0))

  pub each_passes : (n : ℕ) (f : ℕ → A) → every p (table n f) ≡ true → (i : ℕ) → i < n → p (f i) ≡ true
  each_passes n f e i l = is_true (p (f i)) (every-table p n f (subst T (sym e) tt) i l)

-- ---- two lists of n elements compared by `==`
pub same_tested : (n : ℕ) (xs ys : List ℕ) (p : ℕ → Bool) (f : ℕ → ℕ) → length xs ≡ n → length ys ≡ n
    → ((i : ℕ) → p (f i) ≡ eqb (get_or xs i 0) (get_or ys i 0)) → pointwise eqb xs ys ≡ every p (table n f)
unfolding table
same_tested zero [] [] p f a b h = refl
same_tested zero [] (y ∷ ys) p f a b h = absurd (omega arith)
same_tested zero (x ∷ xs) ys p f a b h = absurd (omega arith)
same_tested (suc n) [] ys p f a b h = absurd (omega arith)
same_tested (suc n) (x ∷ xs) [] p f a b h = absurd (omega arith)
same_tested (suc n) (x ∷ xs) (y ∷ ys) p f a b h =
    ap₂ ◌&&◌ (sym (h 0)) (same_tested n xs ys p (λ i. f (suc i)) (omega arith) (omega arith) (λ i. h (suc i)))

-- a list compared with as many zeros
pub zeros_tested : (n : ℕ) (xs : List ℕ) → length xs ≡ n → pointwise eqb xs (replicate n 0) ≡ every (λ x. eqb x 0) xs
zeros_tested zero [] e = refl
zeros_tested zero (x ∷ xs) e = absurd (omega arith)
zeros_tested (suc n) [] e = absurd (omega arith)
zeros_tested (suc n) (x ∷ xs) e = ap (λ (b : Bool). eqb x 0 && b) (zeros_tested n xs (omega arith))
