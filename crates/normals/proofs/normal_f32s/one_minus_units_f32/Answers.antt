use Rattle.base.proofs.Arrays.{mapped}
use Rattle.floats.specs.units.Unit.{one_minus_unit}
use Rattle.std.proofs.Common.{rules}
use lib.Ieee.{binary32}
use Rattle.normals.proofs.normal_f32s.one_minus_units_f32.Goals as goal

pub returns : goal.returns
returns c = mapped (one_minus_unit binary32) 0 c.map.ensures.items (search rules) (λ p q x y k. search rules)
