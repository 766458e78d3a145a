use Rattle.base.proofs.Table.{tabled_end}
use Rattle.math_f64.proofs.box_muller_x32.turns_start.Goals as goal

pub returns-clause-angles : goal.returns-clause-angles
returns-clause-angles c = tabled_end c.loop-i.invariant.0 c.loop-i-test.false

pub returns-clause-sines : goal.returns-clause-sines
returns-clause-sines c = tabled_end c.loop-i.invariant.1 c.loop-i-test.false

pub returns-clause-cosines : goal.returns-clause-cosines
returns-clause-cosines c = tabled_end c.loop-i.invariant.2 c.loop-i-test.false
