use mathlib.Core.Path.{ap, ◌∙◌}
use Rattle.fills.proofs.kinds.Numbers.{stands_for}
use Rattle.fills.specs.Fill.{draws_for}
use Rattle.fills.specs.Kinds.{AnyKind, kind_at}
use Rattle.fills.proofs.kinds.draws_of.Goals as goal

pub returns : goal.returns
returns c =
    c.draws_of.ensures ∙ ap (λ (K : AnyKind). draws_for K.kind c.args.count) (ap kind_at c.kind_of.ensures ∙ stands_for c.args.kind)
