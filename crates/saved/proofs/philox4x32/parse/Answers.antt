use Rattle.saved.proofs.philox4x32.Form.{parse_short, parse_refused, parse_done}
use Rattle.std.proofs.Common.{refl, ap, not}
use Rattle.saved.proofs.philox4x32.parse.Goals as goal

pub returns-then-form-ne104 : goal.returns-then-form-ne104
returns-then-form-ne104 c = parse_short _ c.if-form-ne104.true

pub returns-then-not-is_form : goal.returns-then-not-is_form
returns-then-not-is_form c =
    parse_refused _ c.if-form-ne104.false c.word_at-mark.ensures c.waiting_in-pending.ensures c.word_at-first.ensures c.is_form.ensures
    (ap not c.if-not-is_form.true)

pub returns : goal.returns
returns c =
    parse_done _ c.if-form-ne104.false c.word_at-mark.ensures c.waiting_in-pending.ensures c.word_at-first.ensures c.is_form.ensures
    (ap not c.if-not-is_form.false) (λ i. (c.type_inv.form i).fits) c.word_at-seed.ensures c.low-lo.ensures
    c.high-hi.ensures c.word_at-stream.ensures c.word_at-counter.ensures refl
