use lib.Ieee.{Float, binary64, of_bits, sub}
use mathlib.Core.Path.{ap}
use Rattle.floats.specs.patterns.Numbers.{one}
use Rattle.floats.specs.units.Unit.{one_minus_unit}
use Rattle.floats.proofs.units.one_minus_unit_f64.Goals as goal

pub returns : goal.returns
unfolding one_minus_unit of_bits
returns c = ap (λ (u : Float). sub binary64 one u) c.u64_to_unit_f64.ensures
