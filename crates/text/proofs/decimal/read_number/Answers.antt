use Rattle.std.proofs.Common.{sym, ap, ◌∙◌, arith}
use Rattle.text.specs.decimal.Number.{extended}
use Rattle.text.proofs.decimal.Reading.{on_end, on_stop, on_zero, on_wrong, on_more, from_end, from_wrong, from_digit, extended_none, extended_some}
use Rattle.text.proofs.decimal.read_number.Goals as goal

pub returns-in_err-first : goal.returns-in_err-first
returns-in_err-first c = c.from_residual.ensures ∙ sym (from_end _ _ _ _ c.in_err-first.ensures.lookup.3)

pub returns-in_err-value : goal.returns-in_err-value
returns-in_err-value c =
    let e = c.in_ok-first.ensures.lookup.3 in
    c.from_residual-in_err-value.ensures
    ∙ sym (from_wrong _ _ _ _ e.0 (extended_none _ _ _ (ap (extended c.args.top 0) (sym (e.1 0)) ∙ sym c.in_err-value.ensures)))

pub loop-i-init : goal.loop-i-init
loop-i-init c =
    let e = c.in_ok-first.ensures.lookup.3 in
    from_digit _ _ _ _ _ e.0 (extended_some _ _ _ _ (ap (extended c.args.top 0) (sym (e.1 0)) ∙ sym c.in_ok-value.ensures))

pub returns-then-b-stop : goal.returns-then-b-stop
returns-then-b-stop c = sym (c.loop-i.invariant ∙ on_stop _ _ _ _ _ c.loop-i-test.true c.if-b-stop.true)

pub returns-then-value-eq0 : goal.returns-then-value-eq0
returns-then-value-eq0 c = sym (c.loop-i.invariant ∙ on_zero _ _ _ _ _ c.loop-i-test.true c.if-b-stop.false c.if-value-eq0.true)

pub returns-in_err-value-2 : goal.returns-in_err-value-2
returns-in_err-value-2 c =
    c.from_residual-in_err-value-2.ensures
    ∙ sym (c.loop-i.invariant ∙ on_wrong _ _ _ _ _ c.loop-i-test.true c.if-b-stop.false (omega arith) (extended_none _ _ _ (sym c.in_err-value-2.ensures)))

pub loop-i-preserved : goal.loop-i-preserved
loop-i-preserved c =
    c.loop-i.invariant ∙ on_more _ _ _ _ _ _ c.loop-i-test.true c.if-b-stop.false (omega arith) (extended_some _ _ _ _ (sym c.in_ok-value-2.ensures))

pub returns : goal.returns
returns c = sym (c.loop-i.invariant ∙ on_end _ _ _ _ _ c.loop-i-test.false)
