-- Bounds: of a table's elements, of four words, of the fields of bytes. Assumes nothing.
use Rattle.std.proofs.Common.{ℕ, zero, suc, ◌+◌, ◌^◌, ◌<◌, List, [], ◌∷◌, ◌++◌, length, get_or, take, drop, replicate, suc-le-suc, zero-lt-suc, pow-suc, arith, lit<}
use Rattle.base.specs.Bytes.{le_nat}
use Rattle.base.specs.Quad.{Quad}
use Rattle.base.specs.Table.{table}
use Rattle.saved.specs.fields.Fields.{fields_at}
use Rattle.saved.proofs.fields.Fields.{Bytes, Fits, bytes_drop}

-- ---- elements: past the end 0 is read
pub table_below : (m n : ℕ) (f : ℕ → ℕ) → 0 < m → ((i : ℕ) → i < n → f i < m) → (i : ℕ) → get_or (table n f) i 0 < m
unfolding table
table_below m zero f h each i = h
table_below m (suc n) f h each zero = each 0 (zero-lt-suc n)
table_below m (suc n) f h each (suc i) = table_below m n (λ j. f (suc j)) h (λ j l. each (suc j) (suc-le-suc l)) i

pub append-below : (m : ℕ) (xs ys : List ℕ) → ((i : ℕ) → get_or xs i 0 < m) → ((i : ℕ) → get_or ys i 0 < m) → (i : ℕ) → get_or (xs ++ ys) i 0 < m
append-below m [] ys h k i = k i
append-below m (x ∷ xs) ys h k zero = h 0
append-below m (x ∷ xs) ys h k (suc i) = append-below m xs ys (λ j. h (suc j)) k i

-- four words below m
pub record Small (m : ℕ) (q : Quad) : Type 0 where
  pub w0 : q.w0 < m
  pub w1 : q.w1 < m
  pub w2 : q.w2 < m
  pub w3 : q.w3 < m

-- ---- fields
-- elements below 256 ^ w are fields of width w
pub fits_run : (w : ℕ) (xs : List ℕ) → ((i : ℕ) → get_or xs i 0 < 256 ^ w) → Fits (replicate (length xs) w) xs
fits_run w [] h = tt
fits_run w (x ∷ xs) h = (h 0, fits_run w xs (λ i. h (suc i)))

-- a field is below 256 ^ its width
le_below : (n : ℕ) (s : List ℕ) → Bytes s → le_nat (take n s) < 256 ^ n
le_below zero s h = lit< tt
le_below (suc n) [] h = rw pow-suc (omega (arith, le_below n [] h))
le_below (suc n) (b ∷ s) h = rw pow-suc (omega (arith, h 0, le_below n s (λ i. h (suc i))))

pub field_below : (ws : List ℕ) (at : ℕ) (s : List ℕ) → Bytes s → (i : ℕ) → get_or (fields_at at ws s) i 0 < 256 ^ get_or ws i 0
unfolding fields_at
field_below [] at s h i = lit< tt
field_below (w ∷ ws) at s h zero = le_below w (drop at s) (bytes_drop at s h)
field_below (w ∷ ws) at s h (suc i) = field_below ws (at + w) s h i
