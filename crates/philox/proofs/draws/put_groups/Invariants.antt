use Rattle.philox.proofs.draws.Draws.{GroupStoring, Grouping}
use Rattle.philox.proofs.draws.put_groups.Given as goal

abbrev pub invariant-loop-i : goal.invariant-loop-i
invariant-loop-i l = GroupStoring l.key l.stream l.n l.initial.out l.first l.out l.i

abbrev pub invariant-loop-g : goal.invariant-loop-g
invariant-loop-g l = Grouping l.key l.stream l.counter l.initial.out l.at l.m l.out l.n l.g
