use lib.Ieee.{nan}
use Rattle.base.proofs.Table.{Tabled}
use Rattle.math_f64.specs.ln.Parts.{parts_of, series_start}
use Rattle.math_f64.specs.box_muller_x32.Stages.{at}
use Rattle.math_f64.proofs.box_muller_x32.ln_start.Given as goal

abbrev pub invariant-loop-i : goal.invariant-loop-i
invariant-loop-i l = Tabled 32 (λ j. (parts_of (at l.x j)).s) nan l.s l.i × Tabled 32 (λ j. (parts_of (at l.x j)).e) nan l.e l.i × Tabled 32 (λ j. series_start (parts_of (at l.x j)).s) nan l.p l.i
