use Rattle.std.proofs.Common.{refl}
use Rattle.xoshiro_steps.specs.Xoshiro256pp.{plus}
use Rattle.xoshiro.proofs.scalar.xored.Goals as goal

pub returns : goal.returns
unfolding plus
returns c = refl
