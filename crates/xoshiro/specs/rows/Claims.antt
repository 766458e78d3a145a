-- What is claimed of a step of eight lanes. The claim is proved in proofs/rows/Theorems.antt.
use Rattle.std.specs.Prelude.{◌≡◌, ℕ, ◌<◌, List, slice_index}
use Rattle.base.specs.Quad.{column}
use Rattle.xoshiro_steps.specs.Xoshiro256pp.{output, step}
use Rattle.xoshiro.specs.rows.Lanes.{outputs, stepped}

-- lane i of a step is a step of lane i, and its word is that lane's output
abbrev pub LanesStep : Type 0
LanesStep = (rows : List (List ℕ)) (i : ℕ) → i < 8 → (column (stepped rows) i ≡ step (column rows i)) × (slice_index (outputs rows) i ≡ output (column rows i))
