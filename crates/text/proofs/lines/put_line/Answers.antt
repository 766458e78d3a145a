use Rattle.std.proofs.Common.{arith}
use Rattle.text.proofs.lines.Laws.{line_room, line_put}
use Rattle.text.proofs.lines.put_line.Goals as goal

pub bounds-out-m : goal.bounds-out-m
bounds-out-m c = (line_room _ _ (omega arith) c.requires.0 c.put_value-m.ensures).0

pub overflow_add-result : goal.overflow_add-result
overflow_add-result c = omega (arith, line_room _ _ (omega arith) c.requires.0 c.put_value-m.ensures)

pub returns : goal.returns
returns c = (line_put _ _ c.put_value-m.ensures, (line_room _ _ (omega arith) c.requires.0 c.put_value-m.ensures).1)
