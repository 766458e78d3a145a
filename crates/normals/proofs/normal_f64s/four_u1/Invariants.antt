use Prim.Native.Nat.{◌*◌}
use lib.Ieee.{binary64}
use Rattle.floats.specs.units.Unit.{one_minus_unit}
use Rattle.normals.proofs.normal_f64s.Four.{Rowing}
use Rattle.normals.proofs.normal_f64s.four_u1.Given as goal

abbrev pub invariant-loop-l : goal.invariant-loop-l
invariant-loop-l l = Rowing (one_minus_unit binary64) l.b (16 * l.g) l.x l.j l.l

abbrev pub invariant-loop-j : goal.invariant-loop-j
invariant-loop-j l = Rowing (one_minus_unit binary64) l.b (16 * l.g) l.x l.j 0
