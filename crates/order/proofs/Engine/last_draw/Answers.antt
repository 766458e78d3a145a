use Rattle.std.proofs.Common.{refl}
use Rattle.order.specs.Order.{last_draw}
use Rattle.order.proofs.Engine.last_draw.Goals as goal

pub returns-in-Xoshiro : goal.returns-in-Xoshiro
unfolding last_draw
returns-in-Xoshiro c = rw c.in-Xoshiro.is refl

pub returns-in-Philox : goal.returns-in-Philox
unfolding last_draw
returns-in-Philox c = rw c.in-Philox.is refl
