use Rattle.std.proofs.Common.{arith}
use Rattle.text.proofs.lines.Laws.{sum_room, sum_put}
use Rattle.text.proofs.lines.put_sum.Goals as goal

pub bounds-out-m : goal.bounds-out-m
bounds-out-m c = (sum_room {a = c.args.a} {b = c.args.b} _ (omega arith) (omega arith) c.sum.ensures c.requires c.put_long-m.ensures).0

pub overflow_add-result : goal.overflow_add-result
overflow_add-result c = omega (arith, sum_room {a = c.args.a} {b = c.args.b} _ (omega arith) (omega arith) c.sum.ensures c.requires c.put_long-m.ensures)

pub returns : goal.returns
returns c = (sum_put {a = c.args.a} {b = c.args.b} _ (omega arith) (omega arith) c.sum.ensures c.requires c.put_long-m.ensures _, (sum_room {a = c.args.a} {b = c.args.b} _ (omega arith) (omega arith) c.sum.ensures c.requires c.put_long-m.ensures).1)
