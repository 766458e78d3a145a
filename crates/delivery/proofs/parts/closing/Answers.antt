use Rattle.delivery.proofs.parts.Shown.{unclosed, closed}
use Rattle.delivery.proofs.parts.closing.Goals as goal

pub returns-then-d-ne0-clause-put : goal.returns-then-d-ne0-clause-put
returns-then-d-ne0-clause-put c = (unclosed _ _ c.if-d-ne0.true).0

pub returns-clause-put : goal.returns-clause-put
returns-clause-put c = closed c.args.d _ c.if-d-ne0.false c.put_ends.ensures.put
