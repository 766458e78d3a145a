use Rattle.order.proofs.Laws.{engine_1, engine_2}
use Rattle.order.proofs.engine_of.Goals as goal

pub returns-then-starts_with : goal.returns-then-starts_with
returns-then-starts_with c = engine_1 _ c.if-starts_with.ensures.value

pub returns-then-starts_with-2 : goal.returns-then-starts_with-2
returns-then-starts_with-2 c = engine_2 _ c.if-starts_with.ensures.value c.if-starts_with-2.ensures.value

pub returns : goal.returns
returns c = engine_2 _ c.if-starts_with.ensures.value c.if-starts_with-2.ensures.value
