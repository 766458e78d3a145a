use Rattle.std.proofs.Common.{sym, ap, ◌∙◌}
use Rattle.order.specs.Faults.{answer_of, started}
use Rattle.order.proofs.Laws.{passed}
use Rattle.order.proofs.Reading.{no_kind, no_count, values_of}
use Rattle.order.proofs.with_values.Goals as goal

pub returns-in_err-k : goal.returns-in_err-k
returns-in_err-k c =
    ap answer_of (passed _ c.from_residual.ensures.1 c.in_err-k.ensures.value)
    ∙ no_kind (started c.args.o) _ _ _ (sym c.in_err-k.ensures.ok_part ∙ c.kind_of.ensures)

pub returns-in_err-c : goal.returns-in_err-c
returns-in_err-c c =
    ap answer_of (passed _ c.from_residual-in_err-c.ensures.1 c.in_err-c.ensures.value)
    ∙ no_count (started c.args.o) _ _ _ (sym c.in_ok-k.ensures.ok_part ∙ c.kind_of.ensures) (sym c.in_err-c.ensures.ok_part ∙ c.number.ensures)

pub returns : goal.returns
returns c =
    c.with_draws.ensures
    ∙ values_of (started c.args.o) _ _ _ (sym c.in_ok-k.ensures.ok_part ∙ c.kind_of.ensures) (sym c.in_ok-c.ensures.ok_part ∙ c.number.ensures)
