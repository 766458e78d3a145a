use Rattle.math.specs.Calls.{zeros, sqrt_call}
use Rattle.math_f32.proofs.calls.sqrt_f32.Goals as goal

pub returns : goal.returns
unfolding sqrt_call
returns c = c.sqrt.ensures zeros
