use Rattle.math.specs.Calls.{zeros, ln_call}
use Rattle.math_f32.proofs.calls.ln_f32.Goals as goal

pub returns : goal.returns
unfolding ln_call
returns c = c.ln.ensures zeros
