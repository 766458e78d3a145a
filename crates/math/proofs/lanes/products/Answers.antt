use Rattle.std.proofs.Common.{◌∙◌, arith, rules}
use Rattle.base.proofs.Table.{tabled_more, tabled_end}
use Rattle.base.proofs.Zip.{table-zip}
use Rattle.std.proofs.lemmas.List.{get_or_default}
use Rattle.math.proofs.lanes.products.Goals as goal

pub loop-i-preserved : goal.loop-i-preserved
loop-i-preserved g c =
    let d = g.M.Formulas.blank in
    let a = get_or_default c.args.a c.loop-i.i _ d (search rules) in
    let b = get_or_default c.args.b c.loop-i.i _ d (search rules) in
    tabled_more c.loop-i.invariant (omega arith) (c.product.ensures ∙ (λ k. g.M.Formulas.product (a k) (b k)))

pub returns : goal.returns
returns g c =
    let d = g.M.Formulas.blank in
    tabled_end c.loop-i.invariant c.loop-i-test.false ∙ table-zip g.M.Formulas.product d d 8 c.args.a c.args.b (search rules) (search rules)
