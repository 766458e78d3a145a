-- Columns and rows, and what a loop that stores columns one by one keeps. Assumes nothing.
use mathlib.Core.List.{List, [], ◌∷◌}
use mathlib.Core.Path.{◌≡◌, refl, ap}
use Prim.Native.Nat.{ℕ, ◌+◌, ◌<◌, ◌≤◌}
use native.Mathlib.Omega.{arith}
use lib.ListN.{get_or, length, set}
use Rattle.base.specs.Table.{table}
use Rattle.base.specs.Quad.{Quad, column, rows_of}
use Rattle.base.proofs.Table.{get_or-table, table_same, Tabled, tabled_none, tabled_more, tabled_end}

-- four words are equal one by one
pub quad_path : {a b : Quad} → a.w0 ≡ b.w0 → a.w1 ≡ b.w1 → a.w2 ≡ b.w2 → a.w3 ≡ b.w3 → a ≡ b
quad_path p q r t = λ i. record { w0 = p i; w1 = q i; w2 = r i; w3 = t i }

-- a list of four, by its elements
pub list_four {ℓ} : {A : Type ℓ} (d : A) (l : List A) → length l ≡ 4 → get_or l 0 d ∷ get_or l 1 d ∷ get_or l 2 d ∷ get_or l 3 d ∷ [] ≡ l
list_four d [] h = absurd (omega arith)
list_four d (w ∷ []) h = absurd (omega arith)
list_four d (w ∷ x ∷ []) h = absurd (omega arith)
list_four d (w ∷ x ∷ y ∷ []) h = absurd (omega arith)
list_four d (w ∷ x ∷ y ∷ z ∷ []) h = refl
list_four d (w ∷ x ∷ y ∷ z ∷ v ∷ l) h = absurd (omega arith)

pub column-rows_of : (f : ℕ → Quad) (i : ℕ) → i < 8 → column (rows_of f) i ≡ f i
unfolding column rows_of
column-rows_of f i h =
    quad_path (get_or-table 8 (λ j. (f j).w0) i 0 h) (get_or-table 8 (λ j. (f j).w1) i 0 h) (get_or-table 8 (λ j. (f j).w2) i 0 h) (get_or-table 8 (λ j. (f j).w3) i 0 h)

pub rows_of-same : (f g : ℕ → Quad) → ((i : ℕ) → i < 8 → f i ≡ g i) → rows_of f ≡ rows_of g
unfolding rows_of
rows_of-same f g h = λ k. row (λ q. q.w0) k ∷ row (λ q. q.w1) k ∷ row (λ q. q.w2) k ∷ row (λ q. q.w3) k ∷ []
  where
    row : (w : Quad → ℕ) → table 8 (λ i. w (f i)) ≡ table 8 (λ i. w (g i))
    row w = table_same 8 (λ i. w (f i)) (λ i. w (g i)) (λ i l. ap w (h i l))

-- the first i columns of four rows are stored
pub record Columns (f : ℕ → Quad) (a b c d : List ℕ) (i : ℕ) : Type 0 where
  pub at0 : Tabled 8 (λ j. (f j).w0) 0 a i
  pub at1 : Tabled 8 (λ j. (f j).w1) 0 b i
  pub at2 : Tabled 8 (λ j. (f j).w2) 0 c i
  pub at3 : Tabled 8 (λ j. (f j).w3) 0 d i

module _ {f : ℕ → Quad} {a b c d : List ℕ} where
  pub columns_none : length a ≡ 8 → length b ≡ 8 → length c ≡ 8 → length d ≡ 8 → Columns f a b c d 0
  columns_none p q r s = record { at0 = tabled_none p; at1 = tabled_none q; at2 = tabled_none r; at3 = tabled_none s }

  module _ {i : ℕ} (w : Columns f a b c d i) where
    pub columns_more : (q : Quad) → i < 8 → q ≡ f i → Columns f (set a i q.w0) (set b i q.w1) (set c i q.w2) (set d i q.w3) (i + 1)
    columns_more q h e =
        record {
          at0 = tabled_more w.at0 h (ap (λ (x : Quad). x.w0) e);
          at1 = tabled_more w.at1 h (ap (λ (x : Quad). x.w1) e);
          at2 = tabled_more w.at2 h (ap (λ (x : Quad). x.w2) e);
          at3 = tabled_more w.at3 h (ap (λ (x : Quad). x.w3) e);
        }

    pub columns_end : 8 ≤ i → a ∷ b ∷ c ∷ d ∷ [] ≡ rows_of f
    unfolding rows_of
    columns_end l = λ k. tabled_end w.at0 l k ∷ tabled_end w.at1 l k ∷ tabled_end w.at2 l k ∷ tabled_end w.at3 l k ∷ []
