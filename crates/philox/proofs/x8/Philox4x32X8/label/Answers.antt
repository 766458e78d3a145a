use Rattle.std.proofs.Common.{sym}
use Rattle.philox.proofs.x8.Machine.{label_by}
use Rattle.philox.proofs.x8.Philox4x32X8.label.Goals as goal

pub returns-then-self : goal.returns-then-self
returns-then-self c = sym (label_by c.args.self c.if-self.true)

pub returns : goal.returns
returns c = sym (label_by c.args.self c.if-self.false)
