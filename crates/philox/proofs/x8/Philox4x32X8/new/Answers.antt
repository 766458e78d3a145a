use Rattle.philox.specs.x8.Machine.{fresh}
use Rattle.philox.proofs.x8.Philox4x32X8.new.Goals as goal

pub returns : goal.returns
unfolding fresh
returns c = cc
