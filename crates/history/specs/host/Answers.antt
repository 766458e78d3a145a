-- What the answers of a host's calls count, and what a fill's answer and output say, whatever the engine.
use Rattle.std.specs.Prelude.{List, ◌≡◌, ℕ, ℤ, pos, negsuc, length}
use Rattle.fills.specs.FillBytes.{bytes_written, bytes_draws}
use Rattle.girderpeach.specs.Host.{answer_of}

-- a if the call was accepted, b if its answer is a refusal, which is negative
abbrev pub if_accepted : {A : Type 0} → ℤ → A → A → A
if_accepted (pos n) a b = a
if_accepted (negsuc n) a b = b

-- the draws that a fill's answer reports
abbrev pub answered : ℤ → ℕ
answered (pos n) = n
answered (negsuc n) = 0

-- A fill of kind k whose draws hand out W 0, W 1, ..: it answers the table's draws or minus this refusal; accepted, the output holds the
-- bytes of the typed fill; refused, the output and the form are as they were.
pub record RightAnswer (refusal : ℕ) (W : ℕ → List ℕ) (k : ℕ) (before after : List ℕ) (answer : ℤ) (form form' : List ℕ) : Type 0 where
  pub answers : answer ≡ answer_of refusal (bytes_draws k (length before))
  pub writes : after ≡ if_accepted answer (bytes_written k W (length before)) before
  pub stays : (n : ℕ) → answer ≡ negsuc n → form' ≡ form
