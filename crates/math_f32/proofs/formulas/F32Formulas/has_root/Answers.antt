use Rattle.std.proofs.Common.{rules}
use borrow.Author.Tests.{tests}
use lib.Ieee.{neg, of_bits}
use Rattle.floats.specs.patterns.Domains.{has_root}
use Rattle.math_f32.proofs.formulas.F32Formulas.has_root.Goals as goal

pub returns : goal.returns
unfolding has_root neg of_bits
returns c = search (rules, tests)
