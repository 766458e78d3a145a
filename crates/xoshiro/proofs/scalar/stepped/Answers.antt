use Rattle.words.specs.Words.{shl}
use Rattle.xoshiro_steps.specs.Xoshiro256pp.{step}
use Rattle.xoshiro.proofs.scalar.stepped.Goals as goal

pub returns : goal.returns
unfolding step shl
returns c = cc
