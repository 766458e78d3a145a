use Rattle.std.proofs.Common.{arith}
use Rattle.text.proofs.hexfloat.Laws.{stripped_here, strip_more, strip_put, strip_end}
use Rattle.text.proofs.hexfloat.put_stripped.Goals as goal

pub returns-then-t-ne0 : goal.returns-then-t-ne0
returns-then-t-ne0 c = rw (stripped_here 13 _ (omega arith) c.if-t-ne0.true) c.put_hex.ensures

pub returns-then-w-ne0 : goal.returns-then-w-ne0
returns-then-w-ne0 c = strip_put c.loop-k.invariant (omega arith) c.loop-k-test.true c.if-w-ne0.true c.put_hex-then-w-ne0.ensures

pub loop-k-preserved : goal.loop-k-preserved
loop-k-preserved c = strip_more c.loop-k.invariant c.loop-k-test.true (omega arith)

pub returns : goal.returns
returns c = strip_end _ c.loop-k.invariant (omega arith)
