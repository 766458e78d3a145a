use Rattle.std.proofs.Common.{sym, refl, subst}
use Rattle.philox.specs.draws.Draws.{Small}
use Rattle.philox.proofs.draws.Held.{turning_none, turning_more, turning_end, counter_small, counter_masked_lem}
use Rattle.philox.proofs.draws.block.Goals as goal

pub loop-init : goal.loop-init
loop-init c =
    let small = subst Small (sym (counter_masked_lem _ _)) (counter_small _ _ c.ranges.stream.fits c.ranges.n.fits) in
    turning_none refl small c.ranges.key0.fits c.ranges.key1.fits

pub loop-preserved : goal.loop-preserved
loop-preserved c =
    turning_more c.loop.invariant c.loop-test.true c.round-next.ensures c.wrapping_add_u32-k0.ensures.value c.wrapping_add_u32-k1.ensures.value

pub returns : goal.returns
returns c = turning_end _ _ (counter_masked_lem _ _) c.loop.invariant c.loop-test.false
