use Rattle.xoshiro.specs.x8.Calls.{drawn}
use mathlib.Core.Path.{refl}
use Rattle.xoshiro_fills.proofs.engine.XoshiroEngine.draw.Goals as goal

pub returns : goal.returns
unfolding drawn
returns c = rw c.next_u64x8-d.ensures (refl, refl)
