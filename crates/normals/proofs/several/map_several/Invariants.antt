use Prim.Native.Nat.{◌*◌}
use Rattle.fills.proofs.Buffered.{Grouping}
use Rattle.normals.proofs.several.map_several.Given as goal

abbrev pub invariant-loop-i : goal.invariant-loop-i
invariant-loop-i g l = Grouping (g.K.OfKind.kind l.fn.k) l.b l.fn.out l.at l.q l.out (l.i * l.n)

abbrev pub invariant-loop-j : goal.invariant-loop-j
invariant-loop-j g l = Grouping (g.K.OfKind.kind l.fn.k) l.b l.fn.out l.at l.q l.out l.j
