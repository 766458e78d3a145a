-- A loop that joins a test of each element: after i turns it holds of the first i. One law for every test. Assumes nothing.
use mathlib.Core.Path.{◌≡◌, refl, sym, ap, ◌∙◌}
use mathlib.Core.Bool.{Bool, true, false, ◌&&◌}
use mathlib.Core.List.{List, [], ◌∷◌, ◌++◌}
use Prim.Native.Nat.{ℕ, zero, suc, ◌+◌, ◌≤◌, ◌<◌, suc-le-suc}
use native.Mathlib.Nat.{le_of_suc-le-suc, not-suc-le-zero, zero-lt-suc}
use native.Mathlib.Numerals.{add-one}
use native.Mathlib.Omega.{arith}
use lib.Dec.{T}
use lib.Ieee.Fits.{and_i, and_l, and_r}
use lib.ListN.{length, get_or, take}
use lib.Seq.{take-suc, take_all}
use Rattle.std.specs.List.{fold}
use Rattle.base.specs.Every.{every}
use Rattle.base.specs.Table.{table}

and_true : (a : Bool) → a && true ≡ a
and_true true = refl
and_true false = refl

and_assoc : (a b c : Bool) → a && (b && c) ≡ a && b && c
and_assoc true b c = refl
and_assoc false b c = refl

module _ {A : Type 0} (p : A → Bool) where
  every_last : (xs : List A) (x : A) → every p (xs ++ (x ∷ [])) ≡ every p xs && p x
  every_last [] x = and_true (p x)
  every_last (y ∷ ys) x = ap (λ (b : Bool). p y && b) (every_last ys x) ∙ and_assoc (p y) (every p ys) (p x)

  every_more : (xs : List A) (i : ℕ) (d : A) (ok t : Bool) → i < length xs → ok ≡ every p (take i xs) → t ≡ p (get_or xs i d) → ok && t ≡ every p (take (i + 1) xs)
  every_more xs i d ok t h e g =
      ap (λ (b : Bool). b && t) e ∙ ap (λ (b : Bool). every p (take i xs) && b) g
      ∙ sym (every_last (take i xs) (get_or xs i d))
      ∙ ap (every p) (sym (take-suc xs i d h))
      ∙ ap (λ (n : ℕ). every p (take n xs)) (sym (add-one i))

-- a fold that joins a test of each element is the test of all
pub fold-every : {A : Type 0} (p : A → Bool) (ok : Bool) (xs : List A) → fold (λ (b : Bool) (x : A). b && p x) ok xs ≡ ok && every p xs
fold-every p ok [] = sym (and_true ok)
fold-every p ok (x ∷ xs) = fold-every p (ok && p x) xs ∙ sym (and_assoc ok (p x) (every p xs))

-- ok says whether the first i of n elements pass
pub record Tested {A : Type 0} (n : ℕ) (p : A → Bool) (xs : List A) (ok : Bool) (i : ℕ) : Type 0 where
  pub upto : i ≤ n
  pub long : length xs ≡ n
  pub done : ok ≡ every p (take i xs)

module _ {A : Type 0} {n : ℕ} {p : A → Bool} {xs : List A} where
  pub tested_none : length xs ≡ n → Tested n p xs true 0
  tested_none e = record { upto = omega arith; long = e; done = refl }

  module _ {ok : Bool} {i : ℕ} (w : Tested n p xs ok i) where
    pub tested_more : {t : Bool} (d : A) → i < n → t ≡ p (get_or xs i d) → Tested n p xs (ok && t) (i + 1)
    tested_more {t} d h e =
        record { upto = omega arith; long = w.long; done = every_more p xs i d ok t (omega (arith, w.long)) w.done e }

    pub tested_end : n ≤ i → ok ≡ every p xs
    tested_end h = w.done ∙ ap (every p) (take_all i xs (omega (arith, w.long)))

-- every element passes exactly when each does
module _ {A : Type 0} (p : A → Bool) (d : A) where
  pub every_each : (xs : List A) → T (every p xs) → (i : ℕ) → i < length xs → T (p (get_or xs i d))
  every_each [] h i l = absurd (not-suc-le-zero l)
  every_each (x ∷ xs) h zero l = and_l (p x) (every p xs) h
  every_each (x ∷ xs) h (suc i) l = every_each xs (and_r (p x) (every p xs) h) i (le_of_suc-le-suc l)

  pub each_every : (xs : List A) → ((i : ℕ) → i < length xs → T (p (get_or xs i d))) → T (every p xs)
  each_every [] h = tt
  each_every (x ∷ xs) h = and_i (p x) (every p xs) (h 0 (zero-lt-suc (length xs))) (each_every xs (λ i l. h (suc i) (suc-le-suc l)))

pub every-table : {A : Type 0} (p : A → Bool) (n : ℕ) (f : ℕ → A) → T (every p (table n f)) → (i : ℕ) → i < n → T (p (f i))
unfolding table
every-table p zero f h i l = absurd (not-suc-le-zero l)
every-table p (suc n) f h zero l = and_l (p (f 0)) (every p (table n (λ j. f (suc j)))) h
every-table p (suc n) f h (suc i) l =
    every-table p n (λ j. f (suc j)) (and_r (p (f 0)) (every p (table n (λ j. f (suc j)))) h) i (le_of_suc-le-suc l)
