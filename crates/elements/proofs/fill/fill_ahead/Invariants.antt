use Prim.Native.Nat.{◌-◌}
use Rattle.fills.proofs.Draws.{Turning}
use lib.ListN.{length}
use mathlib.Core.Path.{◌≡◌}
use Rattle.elements.proofs.fill.fill_ahead.Given as goal

abbrev pub invariant-loop-j : goal.invariant-loop-j
invariant-loop-j g l = (length l.buf ≡ 128) × Turning g.E.Engine.engine (g.K.OfKind.kind l.fn.k) l.initial.rng l.initial.out l.m l.out l.j l.rng

abbrev pub decreases-loop-j : goal.decreases-loop-j
decreases-loop-j g l = l.m - l.j
