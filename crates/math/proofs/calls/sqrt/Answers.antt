use Rattle.std.proofs.Common.{sym, ◌∙◌}
use Rattle.math.proofs.Answered.{accepted, refused}
use Rattle.math.proofs.calls.sqrt.Goals as goal

pub returns-then-not-all_have_root : goal.returns-then-not-all_have_root
returns-then-not-all_have_root g c = λ blank. refused blank _ _ (sym c.all_have_root.ensures ∙ c.if-not-all_have_root.true)

pub returns : goal.returns
returns g c = λ blank. accepted blank _ _ (sym c.all_have_root.ensures ∙ c.if-not-all_have_root.false) c.sqrt.ensures
