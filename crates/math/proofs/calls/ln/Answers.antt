use Rattle.std.proofs.Common.{sym, ◌∙◌}
use Rattle.math.proofs.Answered.{accepted, refused}
use Rattle.math.proofs.calls.ln.Goals as goal

pub returns-then-not-all_positive_normal : goal.returns-then-not-all_positive_normal
returns-then-not-all_positive_normal g c = λ blank. refused blank _ _ (sym c.all_positive_normal.ensures ∙ c.if-not-all_positive_normal.true)

pub returns : goal.returns
returns g c = λ blank. accepted blank _ _ (sym c.all_positive_normal.ensures ∙ c.if-not-all_positive_normal.false) c.ln.ensures
