use Rattle.math.specs.Calls.{zeros, ln_call}
use Rattle.math_f64.proofs.calls.ln_f64.Goals as goal

pub returns : goal.returns
unfolding ln_call
returns c = c.ln.ensures zeros
