-- What is claimed of reading and writing together.
use Rattle.std.specs.Prelude.{◌≡◌, ℕ, ◌+◌, ◌<◌, ◌≤◌, List, ◌∷◌, ◌++◌, length, drop}
use Rattle.text.specs.decimal.Decimal.{decimal}
use Rattle.text.specs.decimal.Number.{read, number_from, number_at}

-- a number that is written, up to a byte below the digits, is read back
abbrev pub ReadWritten : Type 0
ReadWritten = (top stop i n : ℕ) (s : List ℕ) → stop < 48 → n ≤ top → number_from top stop i (decimal n ++ (stop ∷ s)) ≡ read n (i + length (decimal n) + 1)

-- what is read as a number is the number as it is written, with no other form of it
abbrev pub NumberSound : Type 0
NumberSound = (top stop : ℕ) (s : List ℕ) (at n j : ℕ) → number_at top stop s at ≡ read n j → (drop at s ≡ decimal n ++ (stop ∷ drop j s)) × (n ≤ top)
