use mathlib.Core.Path.{ap, ◌∙◌}
use Rattle.fills.proofs.kinds.Numbers.{stands_for}
use Rattle.fills.specs.Kinds.{AnyKind, kind_at}
use Rattle.fills.proofs.kinds.width.Goals as goal

pub returns : goal.returns
returns c =
    let w = c.width.ensures in
    (w.0 ∙ ap (λ (K : AnyKind). K.kind.width) (ap kind_at c.kind_of.ensures ∙ stands_for c.args.kind), w.1, w.2, w.3)
