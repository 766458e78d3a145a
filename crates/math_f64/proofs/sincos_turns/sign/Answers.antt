use Rattle.std.proofs.Common.{◌∙◌}
use lib.Ieee.{binary64}
use Rattle.math.proofs.Signs.{sign_pattern}
use Rattle.math_f64.proofs.sincos_turns.sign.Goals as goal

pub returns : goal.returns
returns c = c.from_bits_f64.ensures ∙ sign_pattern binary64 c.args.n
