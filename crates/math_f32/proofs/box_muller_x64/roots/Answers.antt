use Rattle.std.proofs.Common.{arith}
use Rattle.base.proofs.Table.{tabled_end}
use Rattle.math_f32.proofs.box_muller_x64.roots.Goals as goal

pub returns : goal.returns
returns c = tabled_end c.loop-x.invariant.tabled (omega (arith, c.requires, c.loop-x-test.false))
