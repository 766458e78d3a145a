-- Lists of calls on one thing, the latest call first, so that what came before a call is the list's tail. `Step g c` is what the call c
-- promises where it is made on g, and `after c` is what it handed back.
use Rattle.std.specs.Prelude.{List, [], ◌∷◌, ℕ, ◌+◌}

-- what is tallied along a list, t₀ before it: where it is t before a call c, it is f t c after it
abbrev pub folded {ℓ} : {T : Type 0} {C : Type ℓ} → (T → C → T) → T → List C → T
folded f t₀ [] = t₀
folded f t₀ (c ∷ calls) = f (folded f t₀ calls) c

-- the sum of what is counted of each call
abbrev pub total {ℓ} : {C : Type ℓ} → (C → ℕ) → List C → ℕ
total f calls = folded (λ n c. n + f c) 0 calls

-- where a list that began with g₀ leads: to what the latest call handed back
abbrev pub end_of {ℓ} : {G : Type 0} {C : Type ℓ} → (C → G) → G → List C → G
end_of after g₀ [] = g₀
end_of after g₀ (c ∷ calls) = after c

-- the calls were made one after another, the first on g₀, each other one on what the one before it handed back
pub data Run {ℓ} {G : Type 0} {C : Type ℓ} (Step : G → C → Type 0) (after : C → G) (g₀ : G) : List C → Type ℓ where
  none : Run Step after g₀ []
  then : {c : C} {calls : List C} → Run Step after g₀ calls → Step (end_of after g₀ calls) c → Run Step after g₀ (c ∷ calls)

-- each call is right, by the calls before it
abbrev pub Each {ℓ} : {C : Type ℓ} → (List C → C → Type 0) → List C → Type 0
Each right [] = Unit {0}
Each right (c ∷ calls) = right calls c × Each right calls
