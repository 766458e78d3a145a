use Rattle.fills.proofs.Buffered.{group-none, group_more}
use Rattle.normals.proofs.normal_f64s.Four.{four_group}
use Rattle.normals.proofs.normal_f64s.write_four.Goals as goal

pub loop-j-init : goal.loop-j-init
loop-j-init c = group-none

pub loop-j-preserved : goal.loop-j-preserved
loop-j-preserved c =
    let args = c.args in
    group_more c.loop-j.invariant c.loop-j-test.true c.put_halves.ensures
    (four_group args.b.now args.g _ c.loop-j-test.true c.four_u1.ensures c.four_u2.ensures c.lanes.ensures.cosines c.lanes.ensures.sines c.eight_of.ensures c.eight_of-in-loop-j.ensures)
