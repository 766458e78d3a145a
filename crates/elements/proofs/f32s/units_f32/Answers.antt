use Rattle.base.proofs.Arrays.{mapped}
use Rattle.floats.specs.units.Unit.{unit}
use lib.Ieee.{binary32}
use Rattle.std.proofs.Common.{rules}
use Rattle.elements.proofs.f32s.units_f32.Goals as goal

pub returns : goal.returns
returns c = mapped (unit binary32) 0 c.map.ensures.items (search rules) (λ p q x y k. search rules)
