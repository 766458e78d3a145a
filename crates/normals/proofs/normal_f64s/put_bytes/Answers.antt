use mathlib.Core.List.{List}
use lib.Ieee.{Float}
use borrow.Author.Rules.{rules}
use mathlib.Core.List.{◌++◌}
use mathlib.Core.Path.{ap, ◌∙◌}
use Rattle.base.proofs.Stored.{stored-out}
use Rattle.base.specs.Bytes.{flat}
use Rattle.base.specs.Stored.{stored}
use Rattle.fills.specs.FillBytes.{bytes_of}
use Rattle.fills.specs.Kinds.{normal_f64s}
use Rattle.math.specs.Lanes.{halves_of}
use Rattle.math.specs.declared.cos_sin.CosSin.{CosSin}
use Rattle.normals.proofs.normal_f64s.put_bytes.Goals as goal

pub returns-then-out-at : goal.returns-then-out-at
returns-then-out-at c = stored-out _ _ _ (search rules)

pub returns : goal.returns
unfolding halves_of
returns c =
    c.bytes_of_halves.ensures ∙ ap (stored _ _) (ap (λ (x : CosSin (List Float)). flat (bytes_of normal_f64s) (x.cos ++ x.sin)) c.normals_f64-z.ensures)
