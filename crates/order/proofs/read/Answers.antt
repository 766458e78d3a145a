use Rattle.std.proofs.Common.{ap, ◌∙◌}
use Rattle.order.specs.Faults.{answer_of}
use Rattle.order.proofs.Laws.{passed_on}
use Rattle.order.proofs.Reading.{too_few, too_many, no_start, six, seven, no_raw}
use Rattle.order.proofs.read.Goals as goal

pub returns-then-given-lt6 : goal.returns-then-given-lt6
returns-then-given-lt6 c = too_few _ _ _ _ _ _ _ _ c.if-given-lt6.true

pub returns-then-given-gt7 : goal.returns-then-given-gt7
returns-then-given-gt7 c = too_many _ _ _ _ _ _ _ _ c.if-given-lt6.false c.if-given-gt7.true

pub returns-in_err-o : goal.returns-in_err-o
returns-in_err-o c =
    ap answer_of (passed_on c.from_residual.ensures.1)
    ∙ no_start _ _ _ _ _ _ _ _ c.if-given-lt6.false c.if-given-gt7.false c.in_err-o.field-0.0 c.in_err-o.ensures

pub returns-then-given-eq6 : goal.returns-then-given-eq6
returns-then-given-eq6 c = c.with_values.ensures ∙ six _ _ _ _ _ _ _ _ c.if-given-lt6.false c.if-given-gt7.false c.in_ok-o.ensures c.if-given-eq6.true

pub returns-then-starts_with : goal.returns-then-starts_with
returns-then-starts_with c =
    c.with_values-then-starts_with.ensures
    ∙ seven _ _ _ _ _ _ _ _ c.if-given-lt6.false c.if-given-gt7.false c.in_ok-o.ensures c.if-given-eq6.false c.if-starts_with.ensures.value

pub returns : goal.returns
returns c = no_raw _ _ _ _ _ _ _ _ c.if-given-lt6.false c.if-given-gt7.false c.in_ok-o.ensures c.if-given-eq6.false c.if-starts_with.ensures.value
