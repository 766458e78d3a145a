use lib.Ieee.{nan, binary64}
use Rattle.base.proofs.Table.{Mapped}
use Rattle.math.specs.BoxMuller.{minus_twice}
use Rattle.math_f64.specs.ln.Parts.{series_end}
use Rattle.math_f64.specs.box_muller_x32.Stages.{at}
use Rattle.math_f64.proofs.box_muller_x32.ln_end.Given as goal

abbrev pub invariant-loop-i : goal.invariant-loop-i
invariant-loop-i l = Mapped 32 (λ j. minus_twice binary64 (series_end (at l.s j) (at l.e j) (at l.initial.p j))) nan l.initial.p l.p l.i
