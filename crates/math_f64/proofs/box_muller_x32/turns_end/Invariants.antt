use lib.Ieee.{nan}
use Rattle.base.proofs.Table.{Mapped}
use Rattle.math_f64.specs.box_muller_x32.Stages.{at, cos_last, sin_last}
use Rattle.math_f64.proofs.box_muller_x32.turns_end.Given as goal

abbrev pub invariant-loop-i : goal.invariant-loop-i
invariant-loop-i l = Mapped 32 (λ j. sin_last (at l.radius j) (at l.t j) (at l.th j) (at l.initial.s j) (at l.initial.c j)) nan l.initial.s l.s l.i × Mapped 32 (λ j. cos_last (at l.radius j) (at l.t j) (at l.th j) (at l.initial.s j) (at l.initial.c j)) nan l.initial.c l.c l.i
