-- What a call leaves by the number of its refusal, 0 where it has none.
use Rattle.std.specs.Prelude.{ℕ, zero, suc}

-- a if the refusal is none, b if it is one
abbrev pub unless : {A : Type 0} → ℕ → A → A → A
unless zero a b = a
unless (suc n) a b = b
