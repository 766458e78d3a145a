use Rattle.fills.proofs.Buffered.{Grouping}
use Rattle.elements.proofs.group.map_each.Given as goal

abbrev pub invariant-loop-j : goal.invariant-loop-j
invariant-loop-j g l = Grouping (g.K.OfKind.kind l.k) l.b l.initial.out l.at l.q l.out l.j
