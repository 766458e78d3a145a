use Rattle.std.proofs.Common.{sym, ◌∙◌, arith, leb-true}
use Rattle.text.proofs.decimal.Backward.{second_room, long_no, long_put, long-refused}
use Rattle.text.proofs.decimal.put_long.Goals as goal

pub returns-then-w-ge1000000000000000000 : goal.returns-then-w-ge1000000000000000000
returns-then-w-ge1000000000000000000 c = long-refused _ _ _ c.if-w-ge1000000000000000000.true

pub returns-then-not-holds : goal.returns-then-not-holds
returns-then-not-holds c = long_no c.args.w (omega arith) _ _ c.if-w-eq0.false c.digits-n.ensures.0 c.holds.ensures c.if-not-holds.true

pub put_padded-requires : goal.put_padded-requires
put_padded-requires c = second_room _ _ (leb-true _ _ (sym c.holds.ensures ∙ c.if-not-holds.false)) c.put_padded-m.ensures

pub returns : goal.returns
returns c = long_put _ (omega arith) _ _ c.if-w-eq0.false c.digits-n.ensures.0 c.holds.ensures c.if-not-holds.false c.put_padded-m.ensures c.put_padded.ensures
