-- The saved form of an eight-lane generator (the scope document, "Saved forms and the host").
use Rattle.std.specs.Prelude.{ℕ, ◌+◌, cond, List, [], ◌∷◌, ◌++◌, length, replicate, ◌==◌, slice_index}
use Rattle.base.specs.Refusal.{Answer}
use Rattle.base.specs.Table.{table}
use Rattle.saved.specs.fields.Fields.{size_of, laid_out, fields}
use Rattle.xoshiro.specs.declared.scalar.Xoshiro256pp.{Xoshiro256pp}
use Rattle.xoshiro.specs.x8.Calls.{from_lanes, blank8}
use Rattle.xoshiro.specs.declared.x8.Xoshiro256ppX8.{Xoshiro256ppX8}

-- 32 words of eight bytes
abbrev pub layout : List ℕ
layout = replicate 32 8

-- row 0 lanes 0 to 7, then rows 1 to 3
abbrev pub row : List ℕ → List ℕ
row l = table 8 (λ i. slice_index l i)

abbrev pub fields_of : Xoshiro256ppX8 → List ℕ
fields_of g = row g.s0 ++ row g.s1 ++ row g.s2 ++ row g.s3

unfoldable pub form_of : Xoshiro256ppX8 → List ℕ
form_of g = laid_out layout (fields_of g)

-- lane i of such fields
unfoldable pub lane_in : List ℕ → ℕ → Xoshiro256pp
lane_in f i = record { s = slice_index f i ∷ slice_index f (8 + i) ∷ slice_index f (16 + i) ∷ slice_index f (24 + i) ∷ [] }

-- load: another length is refused with 1, a lane of four zero words with 3
unfoldable pub loaded : List ℕ → Answer Xoshiro256ppX8
loaded s = cond (length s == size_of layout) (from_lanes (table 8 (lane_in (fields layout s)))) (record { refusal = 1; value = blank8 })
