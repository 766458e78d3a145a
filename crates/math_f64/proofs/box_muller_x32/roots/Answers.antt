use Rattle.std.proofs.Common.{arith}
use Rattle.base.proofs.Table.{tabled_end}
use Rattle.math_f64.proofs.box_muller_x32.roots.Goals as goal

pub returns : goal.returns
returns c = tabled_end c.loop-x.invariant.tabled (omega (arith, c.requires, c.loop-x-test.false))
