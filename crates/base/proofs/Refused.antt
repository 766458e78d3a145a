-- What `unless` picks. Assumes nothing.
use mathlib.Core.Path.{◌≡◌, refl}
use Prim.Native.Nat.{ℕ, zero, suc}
use native.Mathlib.Omega.{arith}
use Rattle.base.specs.Refused.{unless}

pub unless-none : {A : Type 0} (r : ℕ) → r ≡ 0 → (a b : A) → unless r a b ≡ a
unless-none zero e a b = refl
unless-none (suc r) e a b = absurd (omega arith)

pub unless-some : {A : Type 0} (r : ℕ) → (r ≡ 0 → ⊥) → (a b : A) → unless r a b ≡ b
unless-some zero h a b = absurd (h refl)
unless-some (suc r) h a b = refl

pub unless_again : {A : Type 0} (r : ℕ) (a b : A) → unless r (unless r a b) b ≡ unless r a b
unless_again zero a b = refl
unless_again (suc r) a b = refl
