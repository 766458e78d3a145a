use Rattle.xoshiro_steps.specs.Xoshiro256pp.{output}
use Rattle.xoshiro.specs.scalar.Calls.{drawn}
use Rattle.xoshiro.proofs.scalar.Xoshiro256pp.next_u64.Goals as goal

pub returns : goal.returns
unfolding drawn output
returns c = cc
