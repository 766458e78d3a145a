-- Eight lanes of xoshiro256++: four rows of eight words, lane i is column i.
use Rattle.std.specs.Prelude.{ℕ, List, [], ◌∷◌, slice_index_or}
use Rattle.base.specs.Quad.{column, rows_of}
use Rattle.xoshiro_steps.specs.Xoshiro256pp.{State}
use Rattle.xoshiro.specs.declared.x8.Xoshiro256ppX8.{Xoshiro256ppX8}

-- a generator's rows, and back
abbrev pub rows_in : Xoshiro256ppX8 → List (List ℕ)
rows_in g = g.s0 ∷ g.s1 ∷ g.s2 ∷ g.s3 ∷ []

abbrev pub of_rows : List (List ℕ) → Xoshiro256ppX8
of_rows rows = record { s0 = slice_index_or rows 0 []; s1 = slice_index_or rows 1 []; s2 = slice_index_or rows 2 []; s3 = slice_index_or rows 3 [] }

-- lane i of a generator, and the generator whose lane i is f i
abbrev pub lane_of : Xoshiro256ppX8 → ℕ → State
lane_of g i = column (rows_in g) i

abbrev pub of_states : (ℕ → State) → Xoshiro256ppX8
of_states f = of_rows (rows_of f)
