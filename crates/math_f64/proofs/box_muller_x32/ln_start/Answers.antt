use Rattle.base.proofs.Table.{tabled_end}
use Rattle.math_f64.proofs.box_muller_x32.ln_start.Goals as goal

pub returns-clause-ratios : goal.returns-clause-ratios
returns-clause-ratios c = tabled_end c.loop-i.invariant.0 c.loop-i-test.false

pub returns-clause-exponents : goal.returns-clause-exponents
returns-clause-exponents c = tabled_end c.loop-i.invariant.1 c.loop-i-test.false

pub returns-clause-polynomials : goal.returns-clause-polynomials
returns-clause-polynomials c = tabled_end c.loop-i.invariant.2 c.loop-i-test.false
