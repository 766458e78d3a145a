use lib.Ieee.{of_bits, round}
use Rattle.std.proofs.Common.{refl}
use Rattle.floats.specs.patterns.Polynomial.{horner}
use Rattle.math.specs.Ln.{coefficients64}
use Rattle.math_f64.specs.ln.Parts.{series_end}
use Rattle.math_f64.proofs.ln.series_end.Goals as goal

pub returns : goal.returns
unfolding series_end horner coefficients64 of_bits round
returns c = refl
