-- What writing a form promises, on any engine.
use Rattle.std.specs.Prelude.{◌≡◌, ℕ, cond, List, length, ◌==◌}
use Rattle.base.specs.Refused.{unless}

-- 1 if a slice has another length than a form of n bytes
abbrev pub length_refusal : ℕ → List ℕ → ℕ
length_refusal n s = cond (length s == n) 0 1

-- A form, to be written into the slice `before`, left the slice `after`, and the call answered `refusal`: where the number `refused` isn't
-- 0 the call is refused with it, and then the slice is as it was.
pub record Written (refused : ℕ) (form before after : List ℕ) (refusal : ℕ) : Type 0 where
  pub refuses : refusal ≡ refused
  pub writes : after ≡ unless refusal form before

-- saving a form of n bytes is refused with 1 where the slice has another length
abbrev pub Saved : ℕ → List ℕ → List ℕ → List ℕ → ℕ → Type 0
Saved n form before = Written (length_refusal n before) form before
