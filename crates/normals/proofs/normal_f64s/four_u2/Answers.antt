use Rattle.normals.proofs.normal_f64s.Four.{rows_end}
use Rattle.normals.proofs.normal_f64s.four_u2.Goals as goal

pub returns : goal.returns
returns c = rows_end c.loop-j.invariant c.loop-j-test.false
