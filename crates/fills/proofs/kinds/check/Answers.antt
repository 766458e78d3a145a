use Rattle.std.proofs.Common.{rules}
use Rattle.fills.proofs.kinds.Numbers.{refused-kind, none-passed, row-accepted, row-refused}
use Rattle.fills.proofs.kinds.check.Goals as goal

pub returns-then-not-is_kind-clause-refusal : goal.returns-then-not-is_kind-clause-refusal
returns-then-not-is_kind-clause-refusal c = refused-kind _ _ c.is_kind.ensures (search rules)

pub returns-in_err-row-clause-refusal : goal.returns-in_err-row-clause-refusal
returns-in_err-row-clause-refusal c = none-passed _ _ c.from_residual.result c.from_residual.ensures c.in_err-row.ensures

pub returns-then-len-width-ne0-clause-refusal : goal.returns-then-len-width-ne0-clause-refusal
returns-then-len-width-ne0-clause-refusal c = row-refused c.in_ok-row.row _ _ c.in_ok-row.ensures c.width.ensures.0 c.if-len-width-ne0.true

pub returns-clause-refusal : goal.returns-clause-refusal
returns-clause-refusal c = row-accepted c.in_ok-row.row _ _ c.in_ok-row.ensures c.width.ensures.0 c.if-len-width-ne0.false
