use lib.Ieee.{of_bits}
use mathlib.Core.Path.{refl}
use Rattle.floats.specs.patterns.Domains.{positive_normal}
use Rattle.floats.proofs.patterns.is_positive_normal_f64.Goals as goal

pub returns : goal.returns
unfolding positive_normal of_bits
returns c = refl
