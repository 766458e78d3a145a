use Rattle.philox.proofs.draws.Held.{Turning}
use Rattle.philox.proofs.draws.block.Given as goal

abbrev pub invariant-loop : goal.invariant-loop
invariant-loop l = Turning l.initial.c l.initial.k0 l.initial.k1 l.c l.k0 l.k1 l.counter
