use Rattle.philox.specs.x8.Machine.{drawn}
use mathlib.Core.Path.{refl}
use Rattle.philox_fills.proofs.engine.PhiloxEngine.draw.Goals as goal

pub returns : goal.returns
unfolding drawn
returns c = rw c.draw-d.ensures (refl, refl)
