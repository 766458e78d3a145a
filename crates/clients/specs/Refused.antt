-- The number of a refusal that a model hands back, 0 where nothing was refused.
use Rattle.std.specs.Prelude.{ℕ, Option, Some, None}
use Rattle.base.specs.Refusal.{number_of}
use Rattle.base.specs.declared.refusal.Refusal.{Refusal}

abbrev pub number_in : Option Refusal → ℕ
number_in None = 0
number_in (Some e) = number_of e
