use Rattle.std.proofs.Common.{arith}
use Rattle.philox.proofs.draws.Stores.{storing_none}
use Rattle.philox.proofs.draws.Draws.{block-stored, group-stored, grouping_none, grouping_more}
use Rattle.philox.proofs.draws.put_groups.Goals as goal

pub loop-g-init : goal.loop-g-init
loop-g-init c = grouping_none

pub loop-i-init : goal.loop-i-init
loop-i-init c = storing_none

pub loop-i-preserved : goal.loop-i-preserved
loop-i-preserved c =
    let a = c.args in
    block-stored a.key a.stream c.loop-g.n c.loop-i.invariant (omega arith) c.wrapping_add_u64-number.ensures.value c.block-b.ensures

pub loop-g-preserved : goal.loop-g-preserved
loop-g-preserved c =
    grouping_more c.loop-g.invariant (omega arith) (group-stored _ _ _ c.loop-i.invariant c.loop-i-test.false) c.wrapping_add_u64-n.ensures.value
