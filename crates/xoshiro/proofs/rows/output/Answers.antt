use Rattle.xoshiro.proofs.rows.Lanes.{outputs-rows}
use Rattle.xoshiro.proofs.rows.output.Goals as goal

pub returns : goal.returns
returns c = cc (outputs-rows c.args.s)
