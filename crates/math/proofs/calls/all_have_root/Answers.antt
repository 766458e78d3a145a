use Rattle.std.proofs.Common.{Bool, true, ◌&&◌, rules, ◌∙◌}
use Rattle.std.proofs.lemmas.Iterator.{YieldsList-from_slice}
use Rattle.std.proofs.lemmas.Iterator.Consumers.{fold_from_yields_List}
use Rattle.base.proofs.Every.{fold-every}
use Rattle.math.proofs.calls.all_have_root.Goals as goal

pub returns : goal.returns
returns g c =
    let p = g.M.Formulas.has_root in
    fold_from_yields_List _ (λ (b : Bool) x. b && p x) true _ c.fold.ensures.ran (YieldsList-from_slice c.args.x cc) (λ a x b q k. search rules)
    ∙ fold-every p true c.args.x
