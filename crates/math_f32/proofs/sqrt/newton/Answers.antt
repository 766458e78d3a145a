use lib.Ieee.{of_bits, round}
use Rattle.std.proofs.Common.{refl}
use Rattle.math.specs.Sqrt.{newton_step}
use Rattle.math_f32.proofs.sqrt.newton.Goals as goal

pub returns : goal.returns
unfolding newton_step of_bits round
returns c = refl
