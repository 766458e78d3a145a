use Rattle.base.proofs.Table.{tabled_end}
use Rattle.math_f32.proofs.box_muller_x64.turns.Goals as goal

pub returns-clause-cosines : goal.returns-clause-cosines
returns-clause-cosines c = tabled_end c.loop-i.invariant.0 c.loop-i-test.false

pub returns-clause-sines : goal.returns-clause-sines
returns-clause-sines c = tabled_end c.loop-i.invariant.1.tabled c.loop-i-test.false
