use Prim.Native.Nat.{◌-◌}
use Rattle.fills.proofs.Filling.{Filling}
use Rattle.fills.specs.Kinds.{u64s}
use Rattle.philox.specs.x8.Machine.{engine}
use lib.ListN.{length}
use Rattle.philox_fills.proofs.fill_words.fill_u64_plain.Given as goal

abbrev pub invariant-loop-at : goal.invariant-loop-at
invariant-loop-at l = Filling engine u64s l.initial.rng l.initial.out l.out l.at l.draws l.rng

abbrev pub decreases-loop-at : goal.decreases-loop-at
decreases-loop-at l = length l.initial.out - l.at
