use Rattle.std.proofs.Common.{◌≡◌, ◌-◌, ◌≤◌}
use Rattle.base.proofs.Table.{Tabled}
use Rattle.xoshiro.specs.scalar.Calls.{jumps_made}
use Rattle.xoshiro.specs.x8.Calls.{no_lane}
use Rattle.xoshiro.proofs.x8.Xoshiro256ppX8.from_seed_block.Given as goal

abbrev pub invariant-loop-i : goal.invariant-loop-i
invariant-loop-i l = (1 ≤ l.i) × (l.at ≡ jumps_made (l.i - 1) l.initial.at) × Tabled 8 (λ j. jumps_made j l.initial.at) no_lane l.lanes l.i
