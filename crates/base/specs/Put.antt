-- A text put into a buffer at a place.
use Rattle.std.specs.Prelude.{Bool, cond, List, [], ◌≡◌, ℕ, ◌+◌, length}
use Rattle.base.specs.Stored.{stored}

-- the text t stands in `after` from place `at` on, as far as there are places, everything else is as in `before`, and r is the place behind t
pub record Put (t : List ℕ) (at : ℕ) (before after : List ℕ) (r : ℕ) : Type 0 where
  pub next : r ≡ at + length t
  pub made : after ≡ stored before at t

-- a text where there is room for it, and else none
unfoldable pub given : Bool → List ℕ → List ℕ
given room t = cond room t []
