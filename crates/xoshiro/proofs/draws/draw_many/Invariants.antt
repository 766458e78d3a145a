use Rattle.std.proofs.Common.{◌≡◌, ◌≤◌, length}
use Rattle.base.specs.Engine.{DrawnAt}
use Rattle.xoshiro.specs.x8.Calls.{engine}
use Rattle.xoshiro.proofs.draws.draw_many.Given as goal

abbrev pub invariant-loop-j : goal.invariant-loop-j
invariant-loop-j l = (l.j ≤ l.n) × (length l.out ≡ length l.initial.out) × DrawnAt engine l.initial.rng 0 l.j l.initial.out l.out l.j l.rng
