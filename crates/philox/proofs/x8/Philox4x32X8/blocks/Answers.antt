use Rattle.philox.specs.x8.Machine.{grouped}
use Rattle.philox.proofs.x8.Philox4x32X8.blocks.Goals as goal

pub returns : goal.returns
unfolding grouped
returns c = cc
