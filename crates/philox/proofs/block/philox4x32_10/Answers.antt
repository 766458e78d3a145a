use Rattle.std.proofs.Common.{◌≡◌, length, arith, rules}
use Rattle.philox.proofs.block.Rounds.{rounds-none, rounds_more, rounds-end}
use Rattle.philox.proofs.block.philox4x32_10.Goals as goal

pub loop-init : goal.loop-init
loop-init c =
    let long : length c.args.counter ≡ 4 = search rules in
    rounds-none long

pub loop-preserved : goal.loop-preserved
loop-preserved c = rounds_more c.loop.invariant (omega arith) c.round-next.ensures c.wrapping_add_u32-k0.ensures.value c.wrapping_add_u32-k1.ensures.value

pub returns : goal.returns
returns c = rounds-end c.loop.invariant c.loop-test.false
