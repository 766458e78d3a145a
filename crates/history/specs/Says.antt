-- How a claim speaks of a function that ships: by what the function's own contract says.
use Rattle.std.specs.Prelude.{◌≡◌}

-- `asked` and `learnt` read a function's `requires` and its `ensures` (Asked and Learnt of Rattle.CRATE.proofs.MODULE.FUNCTION.Reads): κs
-- are the lifetimes of what is lent, a holds the arguments, as a.0, a.1.0 and so on, r is what was returned, and e holds the arguments
-- at the return. The function asks nothing of its caller, and what the caller learns is `fact`, word for word.
abbrev pub Says : {K : Type 0} {A R E : K → Type 0} → ((κs : K) → A κs → Type 0) → ((κs : K) → A κs → R κs → E κs → Type 0)
    → ((κs : K) → A κs → R κs → E κs → Type 0) → Type 1
Says {K} {A} {R} {E} asked learnt fact = (κs : K) (a : A κs) (r : R κs) (e : E κs)
    → (asked κs a ≡ Unit {0}) × (learnt κs a r e ≡ fact κs a r e)
