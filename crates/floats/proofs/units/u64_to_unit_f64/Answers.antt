use lib.Ieee.{binary64, of_bits}
use Rattle.floats.proofs.units.Made.{number-made, unit-made}
use Rattle.floats.proofs.units.u64_to_unit_f64.Goals as goal

pub float_from_bits-result : goal.float_from_bits-result
float_from_bits-result c = number-made binary64 c.args.x c.ranges.x.fits

pub returns : goal.returns
unfolding of_bits
returns c = unit-made c.args.x c.ranges.x.fits
