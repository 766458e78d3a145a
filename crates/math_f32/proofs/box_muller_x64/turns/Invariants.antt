use Rattle.std.proofs.Common.{get_or}
use lib.Ieee.{nan, binary32, mul}
use Rattle.base.proofs.Table.{Tabled, Mapped}
use Rattle.math.specs.Lanes.{lane_of}
use Rattle.math_f32.proofs.box_muller_x64.turns.Given as goal

abbrev pub invariant-loop-i : goal.invariant-loop-i
invariant-loop-i l = Tabled 64 (λ j. mul binary32 (get_or l.r j nan) (lane_of binary32 (get_or l.initial.s j nan)).cos) nan l.c l.i × Mapped 64 (λ j. mul binary32 (get_or l.r j nan) (lane_of binary32 (get_or l.initial.s j nan)).sin) nan l.initial.s l.s l.i
