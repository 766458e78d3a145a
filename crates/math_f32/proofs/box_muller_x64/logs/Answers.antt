use Rattle.std.proofs.Common.{ap, ◌∙◌, arith}
use lib.Ieee.{binary32, neg, of_bits, round}
use Rattle.base.proofs.Table.{mapped_more, tabled_end}
use Rattle.math.specs.BoxMuller.{minus_twice}
use Rattle.math.specs.Ln.{ln}
use Rattle.math_f32.proofs.box_muller_x64.logs.Goals as goal

pub loop-x-preserved : goal.loop-x-preserved
unfolding minus_twice neg of_bits round
loop-x-preserved c =
    let w = c.loop-x.invariant in
    mapped_more w (omega arith) (ap (minus_twice binary32) (c.lane.ensures ∙ ap (ln binary32) (w.left _ (omega arith))))

pub returns : goal.returns
returns c = tabled_end c.loop-x.invariant.tabled (omega (arith, c.requires, c.loop-x-test.false))
