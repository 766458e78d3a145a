use Rattle.std.proofs.Common.{refl}
use Rattle.philox.specs.x8.Machine.{sought}
use Rattle.philox.proofs.x8.Philox4x32X8.seek.Goals as goal

pub returns : goal.returns
unfolding sought
returns c = refl
