use lib.Ieee.{nan, binary64}
use Rattle.base.proofs.Table.{Mapped}
use Rattle.math.specs.Sqrt.{sqrt}
use Rattle.math_f64.specs.box_muller_x32.Stages.{at}
use Rattle.math_f64.proofs.box_muller_x32.roots.Given as goal

abbrev pub invariant-loop-x : goal.invariant-loop-x
invariant-loop-x l = Mapped 32 (λ j. sqrt binary64 (at l.initial.x-items j)) nan l.initial.x-items l.x-items l.x-index
