use lib.Ieee.{of_bits, round, sub, neg}
use Rattle.std.proofs.Common.{refl}
use Rattle.floats.specs.patterns.Polynomial.{horner}
use Rattle.math.specs.Turns.{sin_coefficients64}
use Rattle.math_f64.specs.sincos_turns.Lanes.{sin_end}
use Rattle.math_f64.proofs.sincos_turns.sin_end.Goals as goal

pub returns : goal.returns
unfolding sin_end sin_coefficients64 horner of_bits round sub neg
returns c = refl
