use Rattle.math.specs.Calls.{zeros, sqrt_call}
use Rattle.math_f64.proofs.calls.sqrt_f64.Goals as goal

pub returns : goal.returns
unfolding sqrt_call
returns c = c.sqrt.ensures zeros
