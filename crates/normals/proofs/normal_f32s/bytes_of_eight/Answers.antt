use Rattle.elements.proofs.f32s.Halves.{halves_bytes}
use mathlib.Core.Path.{ap}
use Rattle.base.specs.Bytes.{flat}
use Rattle.fills.proofs.Buffered.{group-none, group_more}
use Rattle.fills.specs.FillBytes.{bytes_of}
use Rattle.fills.specs.Kinds.{normal_f32s}
use Rattle.normals.proofs.normal_f32s.Eight.{eight-group}
use Rattle.normals.proofs.normal_f32s.bytes_of_eight.Goals as goal

pub loop-j-init : goal.loop-j-init
loop-j-init c = group-none

pub loop-j-preserved : goal.loop-j-preserved
loop-j-preserved c =
    let args = c.args in
    let v = c.eight_of in
    let w = c.eight_of-in-loop-j in
    group_more c.loop-j.invariant c.loop-j-test.true (halves_bytes _ _ v.result w.result c.bits_f32-lo.ensures c.bits_f32-hi.ensures c.put_halves.ensures)
    (ap (flat (bytes_of normal_f32s)) (eight-group args.b.now args.g _ c.loop-j-test.true c.eight_u.ensures.first c.eight_u.ensures.second c.lanes.ensures.cosines c.lanes.ensures.sines v.ensures w.ensures))
