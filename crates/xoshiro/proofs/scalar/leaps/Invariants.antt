use Rattle.xoshiro.proofs.scalar.Leaping.{Leapt}
use Rattle.xoshiro.proofs.scalar.leaps.Given as goal

abbrev pub invariant-loop-j : goal.invariant-loop-j
invariant-loop-j l = Leapt l.table l.n l.initial.at l.at l.j
