use Rattle.std.proofs.Common.{◌∙◌}
use lib.Ieee.{binary32}
use Rattle.math.proofs.Signs.{sign_pattern}
use Rattle.math_f32.proofs.sincos_turns.sign.Goals as goal

pub returns : goal.returns
returns c = c.from_bits_f32.ensures ∙ sign_pattern binary32 c.args.n
