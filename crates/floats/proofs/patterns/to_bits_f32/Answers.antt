use lib.Ieee.{to_bits}
use Rattle.floats.proofs.patterns.Nan.{is_nan_lem, no_nan}
use Rattle.floats.proofs.patterns.to_bits_f32.Goals as goal

pub float_to_bits-result : goal.float_to_bits-result
float_to_bits-result c = no_nan _ c.if-x.false

pub returns-then-x : goal.returns-then-x
unfolding to_bits
returns-then-x c = rw (is_nan_lem _ c.if-x.true)
