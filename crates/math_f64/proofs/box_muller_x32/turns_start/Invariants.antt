use lib.Ieee.{nan, binary64}
use Rattle.base.proofs.Table.{Tabled}
use Rattle.math.specs.Turns.{angle}
use Rattle.math_f64.specs.sincos_turns.Lanes.{sin_start, cos_start}
use Rattle.math_f64.specs.box_muller_x32.Stages.{at}
use Rattle.math_f64.proofs.box_muller_x32.turns_start.Given as goal

abbrev pub invariant-loop-i : goal.invariant-loop-i
invariant-loop-i l = Tabled 32 (λ j. angle binary64 (at l.t j)) nan l.th l.i × Tabled 32 (λ j. sin_start (angle binary64 (at l.t j))) nan l.s l.i × Tabled 32 (λ j. cos_start (angle binary64 (at l.t j))) nan l.c l.i
