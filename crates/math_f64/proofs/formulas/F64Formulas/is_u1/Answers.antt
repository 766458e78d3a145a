use Rattle.std.proofs.Common.{rules}
use borrow.Author.Tests.{tests}
use lib.Ieee.{neg, of_bits}
use Rattle.floats.specs.patterns.Domains.{is_u1}
use Rattle.math_f64.proofs.formulas.F64Formulas.is_u1.Goals as goal

pub returns : goal.returns
unfolding is_u1 neg of_bits
returns c = search (rules, tests)
