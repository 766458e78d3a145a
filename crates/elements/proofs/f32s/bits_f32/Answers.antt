use Rattle.base.proofs.Arrays.{mapped}
use lib.Ieee.{nan, binary32, to_bits}
use Rattle.std.proofs.Common.{rules}
use Rattle.elements.proofs.f32s.bits_f32.Goals as goal

pub returns : goal.returns
returns c = mapped (to_bits binary32) nan c.map.ensures.items (search rules) (λ p q x y k. search rules)
