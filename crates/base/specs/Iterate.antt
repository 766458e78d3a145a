-- A function done n times.
use Rattle.std.specs.Prelude.{ℕ, zero, suc}

unfoldable pub iterate {ℓ} : {A : Type ℓ} → (A → A) → ℕ → A → A
iterate f zero x = x
iterate f (suc n) x = f (iterate f n x)
