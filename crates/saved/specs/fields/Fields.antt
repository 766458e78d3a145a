-- Numbers laid out one after another as bytes, little-endian. A layout is the widths of its fields in bytes.
use Rattle.std.specs.Prelude.{ℕ, ◌+◌, List, [], ◌∷◌, ◌++◌, take, drop}
use Rattle.base.specs.Bytes.{le_bytes, le_nat}

-- the bytes of a layout
abbrev pub size_of : List ℕ → ℕ
size_of [] = 0
size_of (w ∷ ws) = w + size_of ws

-- the bytes of the fields, one field after another
unfoldable pub laid_out : List ℕ → List ℕ → List ℕ
laid_out (w ∷ ws) (x ∷ xs) = le_bytes w x ++ laid_out ws xs
laid_out (w ∷ ws) [] = []
laid_out [] xs = []

-- the fields of the bytes s, the first of them at place `at`
unfoldable pub fields_at : ℕ → List ℕ → List ℕ → List ℕ
fields_at at [] s = []
fields_at at (w ∷ ws) s = le_nat (take w (drop at s)) ∷ fields_at (at + w) ws s

abbrev pub fields : List ℕ → List ℕ → List ℕ
fields layout s = fields_at 0 layout s
