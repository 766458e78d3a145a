use Rattle.std.proofs.Common.{rules, ◌∙◌}
use Rattle.std.proofs.lemmas.Iterator.{YieldsList-from_slice}
use Rattle.std.proofs.lemmas.Iterator.Search.{all_from_yields_List}
use Rattle.base.proofs.Arrays.{list_all-every}
use Rattle.math.proofs.calls.all_u2.Goals as goal

pub returns : goal.returns
returns g c =
    let p = g.M.Formulas.is_u2 in
    all_from_yields_List p _ _ _ c.all.ensures.ran (YieldsList-from_slice c.args.u cc) (λ x b q k. search rules) ∙ list_all-every p c.args.u
