use Rattle.std.proofs.Common.{sym, ap, ◌∙◌, le-ltb}
use Rattle.xoshiro.specs.scalar.Calls.{accepted}
use Rattle.xoshiro.specs.x8.Calls.{lane_call}
use Rattle.xoshiro.proofs.x8.Lanes.{lane_accepted}
use Rattle.xoshiro.proofs.x8.Xoshiro256ppX8.lane.Goals as goal

pub returns-then-i-lt8 : goal.returns-then-i-lt8
returns-then-i-lt8 c = ap accepted c.lane_at.ensures ∙ sym (lane_accepted _ _ c.if-i-lt8.true)

pub returns : goal.returns
unfolding lane_call
returns c = simp (le-ltb _ _ c.if-i-lt8.false)
