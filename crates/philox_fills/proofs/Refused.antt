-- A refused byte fill, from the refusal that its test answered. Assumes nothing.
use mathlib.Core.List.{List}
use mathlib.Core.Path.{◌≡◌}
use native.Mathlib.Omega.{arith}
use Prim.Native.Nat.{ℕ}
use lib.ListN.{length}
use Rattle.base.specs.Engine.{Engine}
use Rattle.base.specs.Refusal.{number_of}
use Rattle.base.specs.declared.refusal.Refusal.{Refusal}
use Rattle.base.specs.declared.refusal.Refusal.TheVariants.{FormLength, FormMark, ZeroState, UnknownKind, OutputLength, NoSuchLane, LnDomain, TurnsDomain, SqrtDomain, BoxMullerDomain, OtherWords}
use Rattle.fills.specs.FillBytes.{refusal_of, FilledBytes}
use Rattle.fills.proofs.Bytes.{refused-bytes}

-- no refusal has the number 0
pub number_some : (e : Refusal) → number_of e ≡ 0 → ⊥
number_some FormLength h = omega arith
number_some FormMark h = omega arith
number_some ZeroState h = omega arith
number_some UnknownKind h = omega arith
number_some OutputLength h = omega arith
number_some NoSuchLane h = omega arith
number_some LnDomain h = omega arith
number_some TurnsDomain h = omega arith
number_some SqrtDomain h = omega arith
number_some BoxMullerDomain h = omega arith
number_some OtherWords h = omega arith

pub refused_for : {G : Type 0} {E : Engine G} {k : ℕ} {g : G} {before : List ℕ} (e : Refusal) → number_of e ≡ refusal_of k (length before)
    → FilledBytes E k g before before (number_of e) 0 g
refused_for e h = refused-bytes h (number_some e)
