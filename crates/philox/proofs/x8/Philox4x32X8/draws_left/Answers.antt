use Rattle.std.proofs.Common.{arith, rules}
use Rattle.philox.proofs.x8.Machine.{left_by, groups_left}
use Rattle.philox.proofs.x8.Philox4x32X8.draws_left.Goals as goal

pub returns-then-self : goal.returns-then-self
returns-then-self c =
    let g = c.args.self in
    omega (arith, groups_left g.counter (search rules), left_by g c.if-self.true)

pub returns : goal.returns
returns c =
    let g = c.args.self in
    omega (arith, groups_left g.counter (search rules), left_by g c.if-self.false)
