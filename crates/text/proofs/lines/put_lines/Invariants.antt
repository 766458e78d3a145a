use Rattle.text.proofs.lines.Laws.{Going}
use Rattle.text.proofs.lines.put_lines.Given as goal

abbrev pub invariant-loop-i : goal.invariant-loop-i
invariant-loop-i l = Going l.kind l.raw l.initial.out l.n l.i l.out l.at
