use Prim.Native.Nat.{◌+◌, ◌*◌, ◌/◌, ◌%◌, ◌^◌}
use Rattle.base.proofs.Table.{Tabled}
use Rattle.floats.specs.units.Unit.{unit, one_minus_unit}
use lib.Ieee.{nan, binary32}
use lib.ListN.{get_or}
use Rattle.normals.proofs.normal_f32s.eight_u.Given as goal

abbrev pub invariant-loop-i : goal.invariant-loop-i
invariant-loop-i l = Tabled 64 (λ k. one_minus_unit binary32 (get_or l.b (8 * l.g + k) 0 % 2 ^ 32)) nan l.u1 l.i × Tabled 64 (λ k. unit binary32 (get_or l.b (8 * l.g + k) 0 / 2 ^ 32)) nan l.u2 l.i
