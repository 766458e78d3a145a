use Rattle.base.proofs.Table.{tabled_end}
use Rattle.normals.proofs.normal_f32s.eight_u.Goals as goal

pub returns-clause-first : goal.returns-clause-first
returns-clause-first c = tabled_end c.loop-i.invariant.0 c.loop-i-test.false

pub returns-clause-second : goal.returns-clause-second
returns-clause-second c = tabled_end c.loop-i.invariant.1 c.loop-i-test.false
