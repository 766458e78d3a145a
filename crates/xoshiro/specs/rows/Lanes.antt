-- A step of each lane of four rows: what it returns, and the rows after it.
use Rattle.std.specs.Prelude.{ℕ, List}
use Rattle.base.specs.Table.{table}
use Rattle.base.specs.Quad.{column, rows_of}
use Rattle.xoshiro_steps.specs.Xoshiro256pp.{output, step}

unfoldable pub outputs : List (List ℕ) → List ℕ
outputs rows = table 8 (λ i. output (column rows i))

unfoldable pub stepped : List (List ℕ) → List (List ℕ)
stepped rows = rows_of (λ i. step (column rows i))
