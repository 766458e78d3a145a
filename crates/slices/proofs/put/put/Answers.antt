use Rattle.base.proofs.Stored.{stored-out}
use Rattle.slices.proofs.put.Parts.{part_stored}
use borrow.Author.Rules.{rules}
use Rattle.slices.proofs.put.put.Goals as goal

pub returns-then-out-at : goal.returns-then-out-at
returns-then-out-at g c = part_stored c.args.out.now c.args.v _ c.args.at _ (search rules) (search rules) c.copy_from_slice.ensures.after

pub returns-else-at-out : goal.returns-else-at-out
returns-else-at-out g c = stored-out _ _ _ (search rules)
