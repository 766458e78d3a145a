-- The law of induction over lists of calls. Assumes nothing.
use mathlib.Core.List.{List, [], ◌∷◌}
use Rattle.base.specs.Lists.{Run, none, then, end_of}

-- What holds of no calls, and goes on to hold with one call more that kept its promise, holds of every list of calls. A new kind of call is
-- one case more of the second premise.
pub along {ℓ} : {G : Type 0} {C : Type ℓ} {Step : G → C → Type 0} {after : C → G} {g₀ : G} {calls : List C} → Run Step after g₀ calls
    → (P : List C → Type 0) → P [] → ((c : C) (calls : List C) → P calls → Step (end_of after g₀ calls) c → P (c ∷ calls)) → P calls
along none P start more = start
along (then {c = c} {calls = calls} r h) P start more = more c calls (along r P start more) h
