use Rattle.std.proofs.Common.{refl, arith}
use Rattle.text.proofs.decimal.Backward.{back_none, back_end}
use Rattle.text.proofs.hexfloat.Laws.{back_hex}
use Rattle.text.proofs.hexfloat.put_hex.Goals as goal

pub loop-j-init : goal.loop-j-init
loop-j-init c = back_none

pub loop-j-preserved : goal.loop-j-preserved
loop-j-preserved c = back_hex c.loop-j.invariant c.loop-j-test.true c.hex_digit.ensures

pub returns : goal.returns
returns c = back_end c.loop-j.invariant (omega arith) refl
