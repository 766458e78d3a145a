use Rattle.std.proofs.Common.{sym, ◌∙◌, arith, leb-true}
use Rattle.base.proofs.Put.{given_no}
use Rattle.text.proofs.hexfloat.Laws.{minus_few, room_behind, all_put}
use Rattle.text.proofs.hexfloat.put_float.Goals as goal

pub returns-then-not-holds : goal.returns-then-not-holds
returns-then-not-holds c = given_no _ _ _ (sym c.holds.ensures ∙ c.if-not-holds.true)

pub put_magnitude-requires : goal.put_magnitude-requires
put_magnitude-requires c = (omega arith, room_behind 23 (minus_few _) (leb-true _ _ (sym c.holds.ensures ∙ c.if-not-holds.false)) c.put_minus-m.ensures)

pub returns : goal.returns
returns c = all_put _ (leb-true _ _ (sym c.holds.ensures ∙ c.if-not-holds.false)) c.put_minus-m.ensures c.put_magnitude.ensures
