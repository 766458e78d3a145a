use Rattle.std.proofs.Common.{le-leb}
use borrow.Author.Tests.{lt-leb}
use Rattle.base.proofs.Put.{given_yes, given_no}
use Rattle.text.proofs.lines.Laws.{ends_put}
use Rattle.text.proofs.lines.put_ends.Goals as goal

pub returns-then-out-lt42-clause-put : goal.returns-then-out-lt42-clause-put
returns-then-out-lt42-clause-put c = given_no _ _ _ (lt-leb 42 _ c.if-out-lt42.true)

pub returns-clause-put : goal.returns-clause-put
returns-clause-put c = given_yes (le-leb 42 _ c.if-out-lt42.false) (ends_put _ _ c.put_sum-m.ensures.0 c.put_sum.ensures.0)
