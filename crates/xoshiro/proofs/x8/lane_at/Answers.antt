use Rattle.std.proofs.Common.{refl}
use Rattle.base.specs.Quad.{column}
use Rattle.xoshiro.proofs.x8.lane_at.Goals as goal

pub returns : goal.returns
unfolding column
returns c = refl
