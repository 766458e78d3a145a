use Rattle.std.proofs.Common.{◌≡◌, ◌*◌, ◌≤◌}
use Rattle.xoshiro_steps.specs.Xoshiro256pp.{highest_below, highest_of}
use Rattle.xoshiro.proofs.scalar.highest.Given as goal

abbrev pub invariant-loop-i : goal.invariant-loop-i
invariant-loop-i l = (l.i ≤ 4) × (highest_of l.poly ≡ highest_below l.poly (64 * l.i))
