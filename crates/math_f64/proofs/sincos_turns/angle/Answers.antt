use lib.Ieee.{of_bits, round}
use Rattle.std.proofs.Common.{refl}
use Rattle.math.specs.Turns.{shifted, angle}
use Rattle.math_f64.proofs.sincos_turns.angle.Goals as goal

pub returns : goal.returns
unfolding shifted angle of_bits round
returns c = refl
