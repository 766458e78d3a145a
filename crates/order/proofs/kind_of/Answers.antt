use Rattle.std.proofs.Common.{sym, ap, ◌∙◌, eqb}
use Rattle.order.specs.Order.{nonzero}
use Rattle.order.proofs.Laws.{kind_named, kind_not, kind_some, kind_none, kind_tested, none_numbered, some_numbered}
use Rattle.order.proofs.kind_of.Goals as goal

pub returns-in-Some : goal.returns-in-Some
returns-in-Some c = kind_some c.in-Some.i (kind_named c.args.s.now c.in-Some.ensures)

pub returns-in_err-k : goal.returns-in_err-k
returns-in_err-k c =
    let s = c.args.s.now in
    c.from_residual.ensures ∙ kind_none (kind_not s c.in_default.ensures ∙ none_numbered s c.count.ensures c.in_err-k.ensures)

pub returns : goal.returns
returns c =
    let s = c.args.s.now in
    let k = c.in_ok-k.k in
    c.then_some.ensures ∙ kind_tested (eqb k 0) k ∙ ap nonzero (sym (kind_not s c.in_default.ensures ∙ some_numbered s c.count.ensures c.in_ok-k.ensures))
