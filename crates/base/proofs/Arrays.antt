-- What `map` and `from_fn` make of arrays, and what `all` answers of a list, where the closure computes a function. Assumes nothing.
use mathlib.Core.Path.{◌≡◌, refl, sym, ap, subst, ◌∙◌}
use mathlib.Core.Bool.{Bool, ◌&&◌}
use mathlib.Core.List.{List, [], ◌∷◌, map}
use Prim.Native.Nat.{ℕ, zero, suc, ◌+◌, ◌≤◌, ◌<◌}
use native.Mathlib.Decide.{dec_lt}
use native.Mathlib.Omega.{arith}
use lib.ListN.{length, get_or}
use denote.Param.Members.{Mut, Called}
use Rattle.std.specs.Array.{IsMapOf, IsFromFnResult, IsFromFnResultFrom}
use Rattle.std.specs.List.{list_all}
use Rattle.base.specs.Every.{every}
use Rattle.base.specs.Table.{table}
use Rattle.base.specs.Zip.{zip_with}
use Rattle.base.proofs.Table.{table_same, table-get_or}
use Rattle.base.proofs.Zip.{table-map, table-zip}

-- `xs.map(f)`, where each call of f gives h of its argument; d is any element
pub mapped : {F A B : Type 0} {g : Mut F (A × Unit {0}) B} {f : F} (h : A → B) (d : A) {xs : List A} {ys : List B} {n : ℕ}
    → IsMapOf g f xs ys n → length xs ≡ n → ((p q : F) (x : A) (y : B) → Called g p (x, tt) y q → y ≡ h x) → ys ≡ map h xs
mapped h d {xs} {ys} {n} w e told =
    sym (table-get_or n (h d) ys w.long)
    ∙ table_same n _ _ (λ i l. let k = w.at i d (h d) l in told k.0 k.1 _ _ k.2)
    ∙ table-map h d n xs e

-- `from_fn(f)`, where each call of f leaves f as it is and gives h of the number of its place
module _ {F B : Type 0} {g : Mut F (ℕ × Unit {0}) B} (f : F) (h : ℕ → B) {n : ℕ} (told : (q : F) (i : ℕ) (y : B) → i < n → Called g f (i, tt) y q → (q ≡ f) × (y ≡ h i)) where
  from : (ys : List B) (p : F) (i k : ℕ) → p ≡ f → i + k ≡ n → IsFromFnResultFrom g p ys i k → (d : B) (j : ℕ) → i ≤ j → j < n → get_or ys j d ≡ h j
  from ys p i zero e s w d j a b = absurd (omega arith)
  from ys p i (suc k) e s w d j a b = go (told w.0 i w.1 (omega arith) (subst (λ (x : F). Called g x (i, tt) w.1 w.0) e w.3)) (dec_lt i j) (from ys w.0 (i + 1) k)
    where
      go : (w.0 ≡ f) × (w.1 ≡ h i) → Dec (i < j) → (w.0 ≡ f → i + 1 + k ≡ n → IsFromFnResultFrom g w.0 ys (i + 1) k → (d : B) (j : ℕ) → i + 1 ≤ j → j < n → get_or ys j d ≡ h j) → get_or ys j d ≡ h j
      go now (yes q) more = more now.0 (omega arith) w.4 d j (omega arith) b
      go now (no q) more = let q : j ≡ i = omega arith in ap (λ (x : ℕ). get_or ys x d) q ∙ w.2.1 d ∙ now.1 ∙ sym (ap h q)

  pub from_fn : {ys : List B} → IsFromFnResult g f ys n → ys ≡ table n h
  from_fn {ys} w = sym (table-get_or n (h 0) ys w.long) ∙ table_same n _ _ (λ i l. from ys f 0 n refl (omega arith) w.each (h 0) i (omega arith) l)

-- `from_fn(|i| h(xs[i], ys[i]))`
pub from_fn_zip : {F A B C : Type 0} {g : Mut F (ℕ × Unit {0}) C} (f : F) (h : A → B → C) (d : A) (e : B) (xs : List A) (ys : List B) {zs : List C} {n : ℕ}
    → ((q : F) (i : ℕ) (z : C) → i < n → Called g f (i, tt) z q → (q ≡ f) × (z ≡ h (get_or xs i d) (get_or ys i e)))
    → IsFromFnResult g f zs n → length xs ≡ n → length ys ≡ n → zs ≡ zip_with h xs ys
from_fn_zip f h d e xs ys told w p q = from_fn f (λ i. h (get_or xs i d) (get_or ys i e)) told w ∙ table-zip h d e _ xs ys p q

-- std's test of every element is this library's
pub list_all-every : {A : Type 0} (p : A → Bool) (xs : List A) → list_all p xs ≡ every p xs
list_all-every p [] = refl
list_all-every p (x ∷ xs) = ap (λ (b : Bool). p x && b) (list_all-every p xs)
