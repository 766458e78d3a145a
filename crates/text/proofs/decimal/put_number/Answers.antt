use Rattle.base.proofs.Put.{given_no}
use Rattle.text.proofs.decimal.Backward.{word_no, word_put}
use Rattle.text.proofs.decimal.put_number.Goals as goal

pub returns-then-not-holds : goal.returns-then-not-holds
returns-then-not-holds c = given_no _ _ _ (word_no _ _ _ c.digits-n.ensures.0 c.holds.ensures c.if-not-holds.true)

pub returns : goal.returns
returns c = word_put _ c.digits-n.ensures.0 c.holds.ensures c.if-not-holds.false c.put_padded.ensures
