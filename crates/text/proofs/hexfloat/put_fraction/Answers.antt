use Rattle.text.proofs.hexfloat.Laws.{fraction-none, fraction-some}
use Rattle.text.proofs.hexfloat.put_fraction.Goals as goal

pub returns-then-t-eq0 : goal.returns-then-t-eq0
returns-then-t-eq0 c = fraction-none _ _ _ c.if-t-eq0.true

pub returns : goal.returns
returns c = fraction-some _ c.if-t-eq0.false c.put_all-m.ensures c.put_stripped.ensures
