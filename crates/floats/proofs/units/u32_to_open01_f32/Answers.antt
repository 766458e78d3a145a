use lib.Ieee.{binary32, div, of_bits, round, sub}
use Rattle.floats.proofs.units.Made.{number-made, open01-made}
use Rattle.floats.specs.units.Unit.{dyadic}
use Rattle.floats.proofs.units.u32_to_open01_f32.Goals as goal

pub float_from_bits-result : goal.float_from_bits-result
float_from_bits-result c = number-made binary32 c.args.x c.ranges.x.fits

pub returns : goal.returns
unfolding of_bits dyadic round sub div
returns c = open01-made binary32 c.args.x c.ranges.x.fits
