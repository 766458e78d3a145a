use Rattle.std.proofs.Common.{Float, ap, ◌∙◌, le_refl, arith}
use lib.Ieee.{binary64, mul}
use Rattle.base.proofs.Table.{mapped_more, tabled_end}
use Rattle.math.specs.declared.cos_sin.CosSin.{CosSin}
use Rattle.math_f64.specs.box_muller_x32.Stages.{at, ended}
use Rattle.math_f64.proofs.box_muller_x32.turns_end.Goals as goal

pub loop-i-preserved : goal.loop-i-preserved
loop-i-preserved c =
    let args = c.args in
    let i = c.loop-i.i in
    let w = c.loop-i.invariant in
    let r = at args.radius.now i in
    let e = c.turn_end-one.ensures ∙ (λ k. ended (at args.t.now i) (at args.th.now i) (w.0.left i (le_refl i) k) (w.1.left i (le_refl i) k)) in (
      mapped_more w.0 (omega arith) (ap (λ (l : CosSin Float). mul binary64 r l.sin) e),
      mapped_more w.1 (omega arith) (ap (λ (l : CosSin Float). mul binary64 r l.cos) e),
    )

pub returns-clause-sines : goal.returns-clause-sines
returns-clause-sines c = tabled_end c.loop-i.invariant.0.tabled c.loop-i-test.false

pub returns-clause-cosines : goal.returns-clause-cosines
returns-clause-cosines c = tabled_end c.loop-i.invariant.1.tabled c.loop-i-test.false
