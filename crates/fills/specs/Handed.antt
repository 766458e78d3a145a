-- What a fill left in its slice and reported, told by the words of its draws, W 0 first: how the lists of calls speak of fills, whatever the
-- engine.
use Rattle.std.specs.Prelude.{List, ◌≡◌, ℕ, length}
use Rattle.base.specs.Refused.{unless}
use Rattle.base.specs.Table.{table}
use Rattle.fills.specs.Fill.{Kind, draws_for, element}
use Rattle.fills.specs.FillBytes.{refusal_of, bytes_written, bytes_draws}

-- a typed fill: the table's draws, and the table's function of the words in each place
pub record RightFill {A : Type 0} (W : ℕ → List ℕ) (K : Kind A) (before after : List A) (draws : ℕ) : Type 0 where
  pub writes : after ≡ table (length before) (element K W)
  pub count : draws ≡ draws_for K (length before)

-- a byte fill: its refusal is the one that the conditions give; accepted, the slice holds the bytes of the typed fill and the draws are the
-- table's; refused, there are none, and the slice and the generator g are as they were
pub record RightBytes {G : Type 0} (W : ℕ → List ℕ) (k : ℕ) (before after : List ℕ) (g : G) (refusal draws : ℕ) (g' : G) : Type 0 where
  pub refuses : refusal ≡ refusal_of k (length before)
  pub writes : refusal ≡ 0 → after ≡ bytes_written k W (length before)
  pub count : draws ≡ unless (refusal_of k (length before)) (bytes_draws k (length before)) 0
  pub kept : (refusal ≡ 0 → ⊥) → after ≡ before
  pub stays : (refusal ≡ 0 → ⊥) → g' ≡ g
