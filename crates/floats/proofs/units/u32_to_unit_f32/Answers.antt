use Prim.Native.Nat.{◌/◌}
use lib.Ieee.{binary32, of_bits, round}
use native.Mathlib.Omega.{arith}
use Rattle.floats.proofs.units.Exact.{scaled}
use Rattle.floats.specs.units.Unit.{dyadic, unit}
use Rattle.floats.proofs.units.u32_to_unit_f32.Goals as goal

pub returns : goal.returns
unfolding unit dyadic of_bits round
returns c = (scaled binary32 (c.args.x / 256) 24 (omega arith) (omega arith)).is
