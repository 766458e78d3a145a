use Rattle.philox.specs.block.Philox.{round}
use Rattle.philox.proofs.block.round.Goals as goal

pub returns : goal.returns
unfolding round
returns c = cc
