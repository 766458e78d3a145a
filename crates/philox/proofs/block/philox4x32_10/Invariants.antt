use Rattle.philox.proofs.block.Rounds.{Rounds}
use Rattle.philox.proofs.block.philox4x32_10.Given as goal

abbrev pub invariant-loop : goal.invariant-loop
invariant-loop l = Rounds l.initial.c l.initial.k0 l.initial.k1 l.c l.k0 l.k1 l.counter
