use Rattle.std.proofs.Common.{get_or}
use lib.Ieee.{nan, binary32}
use Rattle.base.proofs.Table.{Mapped}
use Rattle.math.specs.BoxMuller.{minus_twice}
use Rattle.math.specs.Ln.{ln}
use Rattle.math_f32.proofs.box_muller_x64.logs.Given as goal

abbrev pub invariant-loop-x : goal.invariant-loop-x
invariant-loop-x l = Mapped 64 (λ j. minus_twice binary32 (ln binary32 (get_or l.initial.x-items j nan))) nan l.initial.x-items l.x-items l.x-index
