use Rattle.std.proofs.Common.{ap, ◌∙◌, arith, rules}
use Rattle.base.proofs.Table.{tabled_more, tabled_end}
use Rattle.base.proofs.Zip.{table-map}
use Rattle.std.proofs.lemmas.List.{get_or_default}
use Rattle.math.proofs.lanes.minus_twice.Goals as goal

pub loop-i-preserved : goal.loop-i-preserved
loop-i-preserved g c =
    tabled_more c.loop-i.invariant (omega arith) (c.minus_twice.ensures ∙ ap g.M.Formulas.minus_twice (get_or_default c.args.x c.loop-i.i _ g.M.Formulas.blank (search rules)))

pub returns : goal.returns
returns g c = tabled_end c.loop-i.invariant c.loop-i-test.false ∙ table-map g.M.Formulas.minus_twice g.M.Formulas.blank 8 c.args.x (search rules)
