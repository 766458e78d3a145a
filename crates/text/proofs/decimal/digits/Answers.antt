use Rattle.std.proofs.Common.{arith, rules}
use Rattle.text.proofs.decimal.Decimal.{length_small, length_two, length_three, length_of_four, length_four, length-word}
use Rattle.text.proofs.decimal.digits.Goals as goal

pub loop-w-init : goal.loop-w-init
loop-w-init c = (search rules, length-word _ (omega arith))

pub loop-w-preserved : goal.loop-w-preserved
loop-w-preserved c = omega (arith, length_four c.loop-w-test.true)

pub returns-then-w-lt10 : goal.returns-then-w-lt10
returns-then-w-lt10 c = omega (arith, length_small _ c.if-w-lt10.true)

pub returns-then-w-lt100 : goal.returns-then-w-lt100
returns-then-w-lt100 c = omega (arith, length_two c.if-w-lt10.false c.if-w-lt100.true)

pub returns-then-w-lt1000 : goal.returns-then-w-lt1000
returns-then-w-lt1000 c = omega (arith, length_three c.if-w-lt100.false c.if-w-lt1000.true)

pub returns : goal.returns
returns c = omega (arith, length_of_four c.if-w-lt1000.false c.loop-w-test.false)
