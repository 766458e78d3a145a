use Rattle.std.proofs.Common.{arith}
use Rattle.base.specs.Quad.{quad_of}
use Rattle.base.proofs.Quad.{columns_more}
use Rattle.base.proofs.Table.{tabled_end}
use Rattle.philox.specs.block.Philox.{group_of}
use Rattle.philox.proofs.block.Rounds.{block_by}
use Rattle.philox.proofs.block.eight_blocks.Goals as goal

pub loop-i-preserved : goal.loop-i-preserved
loop-i-preserved c =
    let is = block_by _ _ _ _ c.wrapping_add_u64-number.ensures.value c.low-c0.ensures c.high-c1.ensures c.low-c2.ensures c.high-c3.ensures c.philox4x32_10-block.ensures in
    columns_more c.loop-i.invariant (quad_of c.philox4x32_10-block.result) (omega arith) is

pub returns : goal.returns
unfolding group_of
returns c =
    let w = c.loop-i.invariant in
    let h = c.loop-i-test.false in
    λ i. record { w0 = tabled_end w.at0 h i; w1 = tabled_end w.at1 h i; w2 = tabled_end w.at2 h i; w3 = tabled_end w.at3 h i }
