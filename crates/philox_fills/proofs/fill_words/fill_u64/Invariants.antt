use Prim.Native.Nat.{◌-◌, ◌≤◌}
use Rattle.fills.proofs.Filling.{Filling}
use Rattle.fills.specs.Kinds.{u64s}
use Rattle.philox.specs.x8.Machine.{engine}
use lib.ListN.{length}
use Rattle.philox_fills.proofs.fill_words.fill_u64.Given as goal

abbrev pub invariant-loop-out : goal.invariant-loop-out
invariant-loop-out l = (l.at ≤ length l.initial.out) × Filling engine u64s l.initial.rng l.initial.out l.out l.at l.draws l.rng

abbrev pub decreases-loop-out : goal.decreases-loop-out
decreases-loop-out l = length l.initial.out - l.at
