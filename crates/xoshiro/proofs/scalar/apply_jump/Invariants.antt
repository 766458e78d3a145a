use Rattle.std.proofs.Common.{◌*◌, ◌≤◌, min, [], ◌∷◌}
use Rattle.base.specs.Quad.{quad_of}
use Rattle.xoshiro_steps.specs.Xoshiro256pp.{none}
use Rattle.xoshiro.proofs.scalar.Jumping.{Walk}
use Rattle.xoshiro.proofs.scalar.apply_jump.Given as goal

abbrev pub invariant-loop-b : goal.invariant-loop-b
invariant-loop-b l = (l.b ≤ l.below) × Walk (l.word ∷ []) (quad_of l.initial.acc) (quad_of l.initial.at) l.acc l.at l.b

abbrev pub invariant-loop-i : goal.invariant-loop-i
invariant-loop-i l = (l.i ≤ l.i-end) × Walk l.poly none (quad_of l.initial.at) l.acc l.at (min l.top (64 * l.i))
