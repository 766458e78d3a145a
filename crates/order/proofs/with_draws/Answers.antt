use Rattle.order.specs.Faults.{started}
use Rattle.order.proofs.Reading.{draws-past, draws_there}
use Rattle.order.proofs.with_draws.Goals as goal

pub returns-then-is_past : goal.returns-then-is_past
returns-then-is_past c = draws-past (started c.args.o) _ _ _ c.draws_of-draws.ensures c.last_draw.ensures c.if-is_past.ensures

pub returns : goal.returns
returns c = draws_there (started c.args.o) _ _ _ c.draws_of-draws.ensures c.last_draw.ensures c.number.ensures c.if-is_past.ensures
