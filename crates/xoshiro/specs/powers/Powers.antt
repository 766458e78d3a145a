-- A table of polynomials, four words to an entry: how far each takes a state.
use Rattle.std.specs.Prelude.{◌≡◌, ℕ, ◌+◌, ◌*◌, ◌^◌, ◌<◌, List, [], ◌∷◌, slice_index}
use Rattle.xoshiro_steps.specs.Claims.{Words}
use Rattle.xoshiro_steps.specs.Xoshiro256pp.{State, steps, jumped}

-- entry j of a table
unfoldable pub entry_of : List ℕ → ℕ → List ℕ
entry_of table j = slice_index table (4 * j) ∷ slice_index table (4 * j + 1) ∷ slice_index table (4 * j + 2) ∷ slice_index table (4 * j + 3) ∷ []

-- the sum that entry j selects is the state after 2 ^ (e + j) steps, for j below 64
unfoldable pub Powers : ℕ → List ℕ → Type 0
Powers e table = (j : ℕ) → j < 64 → (s : State) → Words s → jumped (entry_of table j) s ≡ steps (2 ^ (e + j)) s
