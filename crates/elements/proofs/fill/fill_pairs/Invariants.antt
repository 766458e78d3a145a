use Rattle.fills.proofs.Draws.{Turning}
use Rattle.elements.proofs.fill.fill_pairs.Given as goal

abbrev pub invariant-loop-j : goal.invariant-loop-j
invariant-loop-j g l = Turning g.E.Engine.engine (g.K.OfKind.kind l.fn.k) l.initial.rng l.initial.out l.m l.out l.j l.rng
