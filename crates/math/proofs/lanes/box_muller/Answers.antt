use Rattle.math.proofs.Halves.{half}
use Rattle.math.proofs.lanes.box_muller.Goals as goal

pub returns-clause-cosines : goal.returns-clause-cosines
returns-clause-cosines g c =
    let m = g.M.Formulas in
    half m.ln m.minus_twice m.sqrt m.product c.args.u1 c.ln.ensures c.minus_twice.ensures c.sqrt-radius.ensures m.cos_turns c.args.u2
    c.sincos_turns-turns.ensures.cosines c.products-cos.ensures

pub returns-clause-sines : goal.returns-clause-sines
returns-clause-sines g c =
    let m = g.M.Formulas in
    half m.ln m.minus_twice m.sqrt m.product c.args.u1 c.ln.ensures c.minus_twice.ensures c.sqrt-radius.ensures m.sin_turns c.args.u2
    c.sincos_turns-turns.ensures.sines c.products-sin.ensures
