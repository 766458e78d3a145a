use Rattle.text.proofs.hexfloat.Laws.{Stripping}
use Rattle.text.proofs.hexfloat.put_stripped.Given as goal

abbrev pub invariant-loop-k : goal.invariant-loop-k
invariant-loop-k l = Stripping l.t l.initial.out l.out l.w l.k
