use borrow.Author.Rules.{rules}
use lib.Ieee.{Float}
use mathlib.Core.List.{List, ◌++◌}
use mathlib.Core.Path.{ap, ◌∙◌}
use Rattle.base.proofs.Stored.{stored-out}
use Rattle.base.specs.Stored.{stored}
use Rattle.math.specs.Lanes.{halves_of}
use Rattle.math.specs.declared.cos_sin.CosSin.{CosSin}
use Rattle.normals.proofs.normal_f64s.put_group.Goals as goal

pub returns-then-at-out : goal.returns-then-at-out
unfolding halves_of
returns-then-at-out c = c.put_halves.ensures ∙ ap (stored _ _) (ap (λ (x : CosSin (List Float)). x.cos ++ x.sin) c.normals_f64-z.ensures)

pub returns-else-at-out : goal.returns-else-at-out
returns-else-at-out c = stored-out _ _ _ (search rules)
