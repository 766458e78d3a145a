-- Laws of iterates. Assumes nothing.
use mathlib.Core.Path.{◌≡◌, refl, sym, ap, ◌∙◌}
use Prim.Native.Nat.{ℕ, zero, suc, ◌+◌}
use native.Mathlib.Nat.{zero-add, suc-add, add_comm}
use native.Mathlib.Numerals.{add-one}
use Rattle.base.specs.Iterate.{iterate}

module _ {A : Type 0} (f : A → A) where
  -- one more, as a loop counts
  pub iterate_more : (n : ℕ) (x : A) → iterate f (n + 1) x ≡ f (iterate f n x)
  unfolding iterate
  iterate_more n x = rw (add-one n)

  pub iterate_add : (m n : ℕ) (x : A) → iterate f (m + n) x ≡ iterate f m (iterate f n x)
  unfolding iterate
  iterate_add zero n x = ap (λ (k : ℕ). iterate f k x) (zero-add n)
  iterate_add (suc m) n x = ap (λ (k : ℕ). iterate f k x) (suc-add m n) ∙ ap f (iterate_add m n x)

  pub iterate-then : (m n : ℕ) (x : A) → iterate f (m + n) x ≡ iterate f n (iterate f m x)
  iterate-then m n x = ap (λ (k : ℕ). iterate f k x) (add_comm m n) ∙ iterate_add n m x

-- what commutes with f commutes with its iterates
pub iterate-past : {A : Type 0} (f g : A → A) → ((x : A) → g (f x) ≡ f (g x)) → (n : ℕ) (x : A) → g (iterate f n x) ≡ iterate f n (g x)
unfolding iterate
iterate-past f g h zero x = refl
iterate-past f g h (suc n) x = h (iterate f n x) ∙ ap f (iterate-past f g h n x)

pub iterate_commute : {A : Type 0} (f g : A → A) → ((x : A) → g (f x) ≡ f (g x)) → (m n : ℕ) (x : A) → iterate g m (iterate f n x) ≡ iterate f n (iterate g m x)
iterate_commute f g h m n x = sym (iterate-past g (iterate f n) (λ y. sym (iterate-past f g h n y)) m x)

-- what f keeps, its iterates keep
pub iterate_keeps : {A : Type 0} (P : A → Type 0) (f : A → A) → ((x : A) → P x → P (f x)) → (n : ℕ) (x : A) → P x → P (iterate f n x)
unfolding iterate
iterate_keeps P f h zero x p = p
iterate_keeps P f h (suc n) x p = h (iterate f n x) (iterate_keeps P f h n x p)
