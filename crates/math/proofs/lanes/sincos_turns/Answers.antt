use Rattle.std.proofs.Common.{ap, ◌∙◌, arith, rules}
use Rattle.base.proofs.Table.{tabled_more, tabled_end}
use Rattle.base.proofs.Zip.{table-map}
use Rattle.std.proofs.lemmas.List.{get_or_default}
use Rattle.math.proofs.lanes.sincos_turns.Goals as goal

pub loop-i-preserved : goal.loop-i-preserved
loop-i-preserved g c =
    let w = c.loop-i.invariant in
    let e = get_or_default c.args.t c.loop-i.i _ g.M.Formulas.blank (search rules) in (
      tabled_more w.0 (omega arith) (c.sincos_turns-one.ensures.cosine ∙ ap g.M.Formulas.cos_turns e),
      tabled_more w.1 (omega arith) (c.sincos_turns-one.ensures.sine ∙ ap g.M.Formulas.sin_turns e),
    )

pub returns-clause-cosines : goal.returns-clause-cosines
returns-clause-cosines g c =
    tabled_end c.loop-i.invariant.0 c.loop-i-test.false ∙ table-map g.M.Formulas.cos_turns g.M.Formulas.blank 8 c.args.t (search rules)

pub returns-clause-sines : goal.returns-clause-sines
returns-clause-sines g c =
    tabled_end c.loop-i.invariant.1 c.loop-i-test.false ∙ table-map g.M.Formulas.sin_turns g.M.Formulas.blank 8 c.args.t (search rules)
