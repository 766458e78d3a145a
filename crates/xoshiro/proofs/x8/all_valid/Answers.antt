use Rattle.std.proofs.Common.{Bool, true, ◌&&◌, rules, ◌∙◌}
use Rattle.std.proofs.lemmas.Iterator.{YieldsList-from_slice}
use Rattle.std.proofs.lemmas.Iterator.Consumers.{fold_from_yields_List}
use Rattle.base.proofs.Every.{fold-every}
use Rattle.xoshiro.specs.x8.Calls.{is_valid}
use Rattle.xoshiro.proofs.x8.all_valid.Goals as goal

pub returns : goal.returns
unfolding is_valid
returns c =
    fold_from_yields_List _ (λ (b : Bool) x. b && is_valid x) true _ c.fold.ensures.ran (YieldsList-from_slice c.args.lanes cc) (λ a x b q k. search rules)
    ∙ fold-every is_valid true c.args.lanes
