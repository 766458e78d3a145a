use Rattle.std.proofs.Common.{refl}
use Rattle.order.specs.Order.{last_block}
use Rattle.order.proofs.Engine.last_block.Goals as goal

pub returns-in-Xoshiro : goal.returns-in-Xoshiro
unfolding last_block
returns-in-Xoshiro c = rw c.in-Xoshiro.is refl

pub returns-in-Philox : goal.returns-in-Philox
unfolding last_block
returns-in-Philox c = rw c.in-Philox.is refl
