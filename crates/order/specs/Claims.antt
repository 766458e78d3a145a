-- What is claimed of orders. Each claim is proved in proofs/Theorems.antt.
use Rattle.std.specs.Prelude.{List, ◌≡◌, ℕ, ◌+◌, ◌^◌, ◌≤◌, ◌<◌, length}
use Rattle.fills.specs.Fill.{draws_for}
use Rattle.fills.specs.Kinds.{kinds, kind_at}
use Rattle.order.specs.Order.{last_block, last_draw, order_of}
use Rattle.order.specs.declared.Order.{Order}

-- an order that is not refused: an engine that there is, a block that is no other block of it, a kind of the table, a count of 64 bits,
-- the draws of the table, and none of them past the last draw of the engine
pub record Accepted (o : Order) : Type 0 where
  pub engine : (1 ≤ o.engine) × (o.engine ≤ 2)
  pub block : o.block ≤ last_block o.engine
  pub count : o.count < 2 ^ 64
  pub kind : (1 ≤ o.kind) × (o.kind ≤ length kinds)
  pub draws : o.draws ≡ draws_for (kind_at o.kind).kind o.count
  pub end : o.first + o.draws ≤ last_draw o.engine + 1

abbrev pub Orders : Type 0
Orders = (given : ℕ) (engine seed block first kind count last : List ℕ)
    → (order_of given engine seed block first kind count last).refusal ≡ 0 → Accepted (order_of given engine seed block first kind count last).value
