-- The records of Philox from what a caller in C lends: one argument for each field.
use Rattle.std.specs.Prelude.{Bool, List, [], ℕ, get_or}
use Rattle.philox.specs.declared.x8.Philox4x32X8.{Philox4x32X8}
use Rattle.philox.specs.declared.x8.Blocks.{Blocks}
use Rattle.philox.specs.declared.x8.Label.{Label}

abbrev pub counted : List ℕ → ℕ → ℕ → Bool → List ℕ → ℕ → Philox4x32X8
counted key stream counter waiting pending first =
    record { key = key; stream = stream; counter = counter; waiting = waiting; pending = pending; first = first }

abbrev pub labelled : ℕ → Bool → Label
labelled from upper = record { first = from; upper = upper }

abbrev pub blocks_of : List (List ℕ) → Philox4x32X8 → Blocks
blocks_of rows rng = record { w0 = get_or rows 0 []; w1 = get_or rows 1 []; w2 = get_or rows 2 []; w3 = get_or rows 3 []; rng = rng }
