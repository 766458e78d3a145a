-- What many draws at once left in a slice and reported, told by the words of the draws, W 0 first, whatever the engine.
use Rattle.std.specs.Prelude.{List, ◌≡◌, ℕ, ◌*◌, ◌/◌, ◌%◌, get_or}
use Rattle.base.specs.Stored.{stored}
use Rattle.base.specs.Table.{table}

-- the words of m draws stand one after another in the places from `at` on, as far as there are places; the others are as they were
pub record RightDraws (W : ℕ → List ℕ) (at m : ℕ) (before after : List ℕ) (draws : ℕ) : Type 0 where
  pub writes : after ≡ stored before at (table (m * 8) (λ k. get_or (W (k / 8)) (k % 8) 0))
  pub count : draws ≡ m
