use Rattle.base.proofs.Arrays.{mapped}
use Rattle.floats.specs.units.Unit.{one_minus_unit}
use Rattle.std.proofs.Common.{rules}
use lib.Ieee.{binary64}
use Rattle.normals.proofs.normal_f64s.one_minus_units_f64.Goals as goal

pub returns : goal.returns
returns c = mapped (one_minus_unit binary64) 0 c.map.ensures.items (search rules) (λ p q x y k. search rules)
