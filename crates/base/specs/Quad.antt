-- Four words, as a scalar state or a Philox block has them; and four rows of eight words, whose column i is four words.
use Rattle.std.specs.Prelude.{List, [], ◌∷◌, ℕ, get_or}
use Rattle.base.specs.Table.{table}

pub record Quad : Type 0 where
  pub w0 : ℕ
  pub w1 : ℕ
  pub w2 : ℕ
  pub w3 : ℕ

-- an array of four words, and back
abbrev pub quad_of : List ℕ → Quad
quad_of l = record { w0 = get_or l 0 0; w1 = get_or l 1 0; w2 = get_or l 2 0; w3 = get_or l 3 0 }

abbrev pub list_of : Quad → List ℕ
list_of q = q.w0 ∷ q.w1 ∷ q.w2 ∷ q.w3 ∷ []

-- column i of four rows
unfoldable pub column : List (List ℕ) → ℕ → Quad
column rows i =
    record {
      w0 = get_or (get_or rows 0 []) i 0;
      w1 = get_or (get_or rows 1 []) i 0;
      w2 = get_or (get_or rows 2 []) i 0;
      w3 = get_or (get_or rows 3 []) i 0;
    }

-- the four rows whose column i is f i, for i below 8
unfoldable pub rows_of : (ℕ → Quad) → List (List ℕ)
rows_of f = table 8 (λ i. (f i).w0) ∷ table 8 (λ i. (f i).w1) ∷ table 8 (λ i. (f i).w2) ∷ table 8 (λ i. (f i).w3) ∷ []
