use Rattle.math_f64.proofs.box_muller_x32.Whole.{radii, cosines, sines}
use Rattle.math_f64.proofs.box_muller_x32.lanes.Goals as goal

pub returns-clause-cosines : goal.returns-clause-cosines
returns-clause-cosines c =
    let u1 = c.args.u1.now in
    let r = radii u1 c.ln_start.ensures.ratios c.ln_start.ensures.exponents c.ln_start.ensures.polynomials c.ln_end.ensures c.roots.ensures in
    let t = c.turns_start.ensures in
    cosines u1 c.args.u2.now c.told-u1 c.told-u2 r t.angles t.sines t.cosines c.turns_end.ensures.cosines

pub returns-clause-sines : goal.returns-clause-sines
returns-clause-sines c =
    let u1 = c.args.u1.now in
    let r = radii u1 c.ln_start.ensures.ratios c.ln_start.ensures.exponents c.ln_start.ensures.polynomials c.ln_end.ensures c.roots.ensures in
    let t = c.turns_start.ensures in
    sines u1 c.args.u2.now c.told-u1 c.told-u2 r t.angles t.sines t.cosines c.turns_end.ensures.sines
