-- Lists made element by element from one list or from two: as tables, and one made from another. Assumes nothing.
use mathlib.Core.List.{List, [], ◌∷◌, ◌++◌, map}
use mathlib.Core.Path.{◌≡◌, refl, sym, ap, ◌∙◌}
use Prim.Native.Nat.{ℕ, zero, suc, ◌+◌, ◌≤◌, ◌<◌}
use native.Mathlib.Omega.{arith}
use lib.ListN.{length, get_or}
use Rattle.base.specs.Table.{table}
use Rattle.base.specs.Zip.{zip_with}
use Rattle.base.proofs.Table.{placed, table_same}

module _ {A B : Type 0} (g : A → B) (d : A) where
  whole : (xs : List A) → table (length xs) (λ i. g (get_or xs i d)) ≡ map g xs
  unfolding table
  whole [] = refl
  whole (x ∷ xs) = ap (λ (l : List B). g x ∷ l) (whole xs)

  pub table-map : (n : ℕ) (xs : List A) → length xs ≡ n → table n (λ i. g (get_or xs i d)) ≡ map g xs
  table-map n xs e = ap (λ (m : ℕ). table m (λ i. g (get_or xs i d))) (sym e) ∙ whole xs

module _ {A B C : Type 0} (g : A → B → C) (d : A) (e : B) where
  pub table-zip : (n : ℕ) (xs : List A) (ys : List B) → length xs ≡ n → length ys ≡ n → table n (λ i. g (get_or xs i d) (get_or ys i e)) ≡ zip_with g xs ys
  unfolding table
  table-zip zero [] ys p q = refl
  table-zip zero (x ∷ xs) ys p q = absurd (omega arith)
  table-zip (suc n) [] ys p q = absurd (omega arith)
  table-zip (suc n) (x ∷ xs) [] p q = absurd (omega arith)
  table-zip (suc n) (x ∷ xs) (y ∷ ys) p q = ap (λ (l : List C). g x y ∷ l) (table-zip n xs ys (omega arith) (omega arith))

pub map-map : {A B C : Type 0} (g : B → C) (f : A → B) (xs : List A) → map g (map f xs) ≡ map (λ x. g (f x)) xs
map-map g f [] = refl
map-map {C = C} g f (x ∷ xs) = ap (λ (l : List C). g (f x) ∷ l) (map-map g f xs)

pub zip_maps : {A B C D E : Type 0} (g : C → D → E) (a : A → C) (b : B → D) (xs : List A) (ys : List B) → zip_with g (map a xs) (map b ys) ≡ zip_with (λ x y. g (a x) (b y)) xs ys
zip_maps g a b [] ys = refl
zip_maps g a b (x ∷ xs) [] = refl
zip_maps {E = E} g a b (x ∷ xs) (y ∷ ys) = ap (λ (l : List E). g (a x) (b y) ∷ l) (zip_maps g a b xs ys)

pub map-append : {A B : Type 0} (f : A → B) (xs ys : List A) → map f (xs ++ ys) ≡ map f xs ++ map f ys
map-append f [] ys = refl
map-append {B = B} f (x ∷ xs) ys = ap (λ (l : List B). f x ∷ l) (map-append f xs ys)

-- a table joined with another, and one made from a table
pub zip_tables : {A B C : Type 0} (g : A → B → C) (n : ℕ) (a : ℕ → A) (b : ℕ → B) → zip_with g (table n a) (table n b) ≡ table n (λ i. g (a i) (b i))
unfolding table
zip_tables g zero a b = refl
zip_tables {C = C} g (suc n) a b = ap (λ (l : List C). g (a 0) (b 0) ∷ l) (zip_tables g n (λ i. a (suc i)) (λ i. b (suc i)))

pub map-table : {A B : Type 0} (g : A → B) (n : ℕ) (a : ℕ → A) → map g (table n a) ≡ table n (λ i. g (a i))
unfolding table
map-table g zero a = refl
map-table {B = B} g (suc n) a = ap (λ (l : List B). g (a 0) ∷ l) (map-table g n (λ i. a (suc i)))

-- the eight places from m on of two tables joined, told by tables of eight
pub zip-part : {A B C : Type 0} (g : A → B → C) (d : C) (n m : ℕ) (a a' : ℕ → A) (b b' : ℕ → B) {z v : List C}
    → z ≡ zip_with g (table n a) (table n b)
    → v ≡ table 8 (λ k. get_or z (m + k) d) → m + 8 ≤ n → ((k : ℕ) → k < 8 → a (m + k) ≡ a' k) → ((k : ℕ) → k < 8 → b (m + k) ≡ b' k)
    → v ≡ zip_with g (table 8 a') (table 8 b')
zip-part g d n m a a' b b' ez ev h ea eb =
    ev
    ∙ table_same 8 _ _ (λ k l. placed n d _ (ez ∙ zip_tables g n a b) (m + k) (omega arith) ∙ (λ i. g (ea k l i) (eb k l i)))
    ∙ sym (zip_tables g 8 a' b')
