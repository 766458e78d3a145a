-- The kinds as the code names them, and their numbers.
use Rattle.std.specs.Prelude.{ℕ, ◌≡◌, false, Result, MatchResult}
use Rattle.base.specs.declared.refusal.Refusal.{Refusal}
use Rattle.base.specs.declared.refusal.Refusal.TheVariants.{UnknownKind}
use Rattle.fills.specs.declared.kinds.Kind.{Kind}
use Rattle.fills.specs.declared.kinds.Kind.TheVariants.{U64, U32, F32, F64, NormalF32, NormalF64, Open01F32, Open01F64}
use Rattle.fills.specs.Kinds.{is_kind}

-- a kind's row in the table, counted from 1
abbrev pub number_of : Kind → ℕ
number_of U64 = 1
number_of U32 = 2
number_of F32 = 3
number_of F64 = 4
number_of NormalF32 = 5
number_of NormalF64 = 6
number_of Open01F32 = 7
number_of Open01F64 = 8

-- what is answered for a number: the kind of that row, or that there is none
abbrev pub Numbered : ℕ → Result Kind Refusal → Type 0
Numbered n r = MatchResult r (λ k. number_of k ≡ n) (λ e. (e ≡ UnknownKind) × (is_kind n ≡ false))
