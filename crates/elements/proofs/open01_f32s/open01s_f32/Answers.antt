use Rattle.base.proofs.Arrays.{mapped}
use Rattle.floats.specs.units.Unit.{open01}
use lib.Ieee.{binary32}
use Rattle.std.proofs.Common.{rules}
use Rattle.elements.proofs.open01_f32s.open01s_f32.Goals as goal

pub returns : goal.returns
returns c = mapped (open01 binary32) 0 c.map.ensures.items (search rules) (λ p q x y k. search rules)
