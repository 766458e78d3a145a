use Rattle.std.proofs.Common.{refl, arith}
use Rattle.text.proofs.decimal.Backward.{back_none, back_pair, back_upto, back_end, back_last}
use Rattle.text.proofs.decimal.put_padded.Goals as goal
use Rattle.text.proofs.decimal.put_padded.Goals.{then-odd-eq1, else-odd-eq1}

pub loop-pair-init : goal.loop-pair-init
loop-pair-init c = back_upto (omega arith) back_none

pub loop-pair-preserved : goal.loop-pair-preserved
loop-pair-preserved c = back_pair _ _ c.loop-pair.invariant c.loop-pair-test.true c.digit.ensures c.digit-in-loop-pair.ensures

pub returns : goal.returns
returns c =
    elim c.if-odd-eq1.branch [
      | then-odd-eq1 w ↦ rw w.out-is (back_last c.loop-pair.invariant (omega (arith, w.if-odd-eq1.true)) w.digit-then-odd-eq1.ensures refl)
      | else-odd-eq1 w ↦ rw w.out-is (back_end c.loop-pair.invariant (omega (arith, w.if-odd-eq1.false)) refl)
    ]
