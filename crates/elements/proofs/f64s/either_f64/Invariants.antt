use Rattle.base.proofs.Table.{Tabled}
use Rattle.floats.specs.units.Unit.{unit_of}
use lib.Ieee.{nan, binary64}
use lib.ListN.{get_or}
use Rattle.elements.proofs.f64s.either_f64.Given as goal

abbrev pub invariant-loop-i : goal.invariant-loop-i
invariant-loop-i l = Tabled 8 (λ j. unit_of binary64 l.nonzero (get_or l.w j 0)) nan l.out l.i
