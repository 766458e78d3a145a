use Rattle.base.proofs.Arrays.{mapped}
use Rattle.floats.specs.units.Unit.{unit}
use lib.Ieee.{binary64}
use Rattle.std.proofs.Common.{rules}
use Rattle.elements.proofs.f64s.units_f64.Goals as goal

pub returns : goal.returns
returns c = mapped (unit binary64) 0 c.map.ensures.items (search rules) (λ p q x y k. search rules)
