use lib.Ieee.{binary64, div, of_bits, round, sub}
use Rattle.floats.proofs.units.Made.{number-made, either-made}
use Rattle.floats.specs.units.Unit.{dyadic}
use Rattle.floats.proofs.units.u64_to_f64.Goals as goal

pub float_from_bits-result : goal.float_from_bits-result
float_from_bits-result c = number-made binary64 c.args.x c.ranges.x.fits

pub returns : goal.returns
unfolding of_bits dyadic round sub div
returns c =
    let a = c.args in
    either-made a.nonzero a.x c.ranges.x.fits c.select-less.ensures
