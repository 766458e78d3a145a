use Rattle.text.proofs.hexfloat.Laws.{minus_yes, minus_no}
use Rattle.text.proofs.hexfloat.put_minus.Goals as goal

pub returns-then-s : goal.returns-then-s
returns-then-s c = minus_yes c.if-s.true c.put_all.ensures

pub returns : goal.returns
returns c = minus_no _ _ c.if-s.false
