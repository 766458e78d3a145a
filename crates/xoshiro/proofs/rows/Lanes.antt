-- Row operations make a step of each lane. Assumes nothing.
use Rattle.std.proofs.Common.{◌≡◌, ℕ, List, [], ◌∷◌, length, get_or, set, refl, ap, ◌∙◌, ap₂, arith}
use Rattle.base.specs.Table.{table}
use Rattle.base.specs.Quad.{column, rows_of}
use Rattle.xoshiro_steps.specs.Xoshiro256pp.{output, step}
use Rattle.xoshiro.specs.rows.Rows.{sums, xors, shls, rotls}
use Rattle.xoshiro.specs.rows.Lanes.{outputs, stepped}

abbrev row : List (List ℕ) → ℕ → List ℕ
row rows k = get_or rows k []

pub outputs-rows : (rows : List (List ℕ)) → sums (rotls 23 (sums (row rows 0) (row rows 3))) (row rows 0) ≡ outputs rows
unfolding table sums rotls outputs output column
outputs-rows rows = refl

stepped-rows : (rows : List (List ℕ))
    → xors (row rows 0) (xors (row rows 3) (row rows 1)) ∷ xors (row rows 1) (xors (row rows 2) (row rows 0)) ∷ xors (xors (row rows 2) (row rows 0)) (shls 17 (row rows 1))
    ∷ rotls 45 (xors (row rows 3) (row rows 1)) ∷ []
    ≡ stepped rows
unfolding table xors rotls shls stepped rows_of step column
stepped-rows rows = refl

-- the rows stored one by one, as the step's text has it
pub stepped_in_place : (rows : List (List ℕ)) {t u v a b c d : List ℕ} → length rows ≡ 4
    → t ≡ shls 17 (row rows 1)
    → u ≡ xors (row rows 2) (row rows 0)
    → v ≡ xors (row (set rows 2 u) 3) (row (set rows 2 u) 1)
    → a ≡ xors (row (set (set rows 2 u) 3 v) 1) (row (set (set rows 2 u) 3 v) 2)
    → b ≡ xors (row (set (set (set rows 2 u) 3 v) 1 a) 0) (row (set (set (set rows 2 u) 3 v) 1 a) 3)
    → c ≡ xors (row (set (set (set (set rows 2 u) 3 v) 1 a) 0 b) 2) t
    → d ≡ rotls 45 (row (set (set (set (set (set rows 2 u) 3 v) 1 a) 0 b) 2 c) 3)
    → set (set (set (set (set (set rows 2 u) 3 v) 1 a) 0 b) 2 c) 3 d ≡ stepped rows
stepped_in_place [] h et eu ev ea eb ec ed = absurd (omega arith)
stepped_in_place (w ∷ []) h et eu ev ea eb ec ed = absurd (omega arith)
stepped_in_place (w ∷ x ∷ []) h et eu ev ea eb ec ed = absurd (omega arith)
stepped_in_place (w ∷ x ∷ y ∷ []) h et eu ev ea eb ec ed = absurd (omega arith)
stepped_in_place (w ∷ x ∷ y ∷ z ∷ []) h et eu ev ea eb ec ed =
    (λ i. (eb ∙ ap (xors w) ev) i ∷ (ea ∙ ap (xors x) eu) i ∷ (ec ∙ ap₂ xors eu et) i ∷ (ed ∙ ap (rotls 45) ev) i ∷ [])
    ∙ stepped-rows (w ∷ x ∷ y ∷ z ∷ [])
stepped_in_place (w ∷ x ∷ y ∷ z ∷ o ∷ l) h et eu ev ea eb ec ed = absurd (omega arith)
