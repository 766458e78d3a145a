use Rattle.std.proofs.Common.{ap, ◌∙◌, arith}
use lib.Ieee.{binary64, neg, of_bits, round}
use Rattle.base.proofs.Table.{mapped_more, tabled_end}
use Rattle.math.specs.BoxMuller.{minus_twice}
use Rattle.math_f64.specs.ln.Parts.{series_end}
use Rattle.math_f64.proofs.box_muller_x32.ln_end.Goals as goal

pub loop-i-preserved : goal.loop-i-preserved
unfolding minus_twice neg of_bits round
loop-i-preserved c =
    let w = c.loop-i.invariant in
    mapped_more w (omega arith) (ap (minus_twice binary64) (c.series_end.ensures ∙ ap (series_end _ _) (w.left _ (omega arith))))

pub returns : goal.returns
returns c = tabled_end c.loop-i.invariant.tabled c.loop-i-test.false
