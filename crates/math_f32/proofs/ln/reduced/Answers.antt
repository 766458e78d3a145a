use lib.Ieee.{of_bits, round, sub, neg}
use Rattle.std.proofs.Common.{refl}
use Rattle.floats.specs.patterns.Polynomial.{horner}
use Rattle.math.specs.Ln.{reduced32, coefficients32}
use Rattle.math_f32.proofs.ln.reduced.Goals as goal

pub returns : goal.returns
unfolding reduced32 horner coefficients32 of_bits round sub neg
returns c = refl
