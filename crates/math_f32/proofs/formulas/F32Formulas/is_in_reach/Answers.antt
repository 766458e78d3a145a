use Rattle.std.proofs.Common.{rules}
use borrow.Author.Tests.{tests}
use lib.Ieee.{neg, of_bits}
use Rattle.floats.specs.patterns.Domains.{in_reach}
use Rattle.math_f32.proofs.formulas.F32Formulas.is_in_reach.Goals as goal

pub returns : goal.returns
unfolding in_reach neg of_bits
returns c = search (rules, tests)
