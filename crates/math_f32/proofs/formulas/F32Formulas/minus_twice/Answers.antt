use Rattle.std.proofs.Common.{refl}
use lib.Ieee.{neg, of_bits, round}
use Rattle.math.specs.BoxMuller.{minus_twice}
use Rattle.math_f32.proofs.formulas.F32Formulas.minus_twice.Goals as goal

pub returns : goal.returns
unfolding minus_twice neg of_bits round
returns c = refl
