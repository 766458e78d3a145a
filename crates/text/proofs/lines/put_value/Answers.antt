use Rattle.std.proofs.Common.{sym, ◌∙◌, arith}
use Rattle.text.proofs.lines.Laws.{text_integer, text_single, text_double}
use Rattle.text.proofs.lines.put_value.Goals as goal

pub returns-then-kind-le2 : goal.returns-then-kind-le2
returns-then-kind-le2 c = text_integer _ _ c.requires.0 c.if-kind-le2.true (omega arith) c.put_number.ensures

pub returns-then-width-eq4 : goal.returns-then-width-eq4
returns-then-width-eq4 c = text_single _ _ c.requires.0 c.if-kind-le2.false (sym c.width.ensures.0 ∙ c.if-width-eq4.true) c.put_float32.ensures

pub returns : goal.returns
returns c = text_double _ _ c.requires.0 c.if-kind-le2.false (λ e. c.if-width-eq4.false (c.width.ensures.0 ∙ e)) c.put_float.ensures
