use Rattle.std.proofs.Common.{ℕ, ◌/◌, length, sym, ap, ◌∙◌, arith}
use Rattle.base.proofs.Put.{given_yes, given_no}
use Rattle.text.proofs.lines.Laws.{going_start, going_more, going_end}
use Rattle.text.proofs.lines.Laws.{refused-kind, refused_room, all_accepted}
use Rattle.text.proofs.lines.put_lines.Goals as goal

pub returns-then-refusal_of-ne0-clause-put : goal.returns-then-refusal_of-ne0-clause-put
returns-then-refusal_of-ne0-clause-put c = given_no _ _ _ (refused-kind _ _ _ (λ e. c.if-refusal_of-ne0.true (c.refusal_of.ensures ∙ e)))

pub returns-then-out-n-clause-put : goal.returns-then-out-n-clause-put
returns-then-out-n-clause-put c = given_no _ _ _ (refused_room _ _ _ (ap (λ (w : ℕ). length c.args.raw.now / w) c.width.ensures.0) (sym c.refusal_of.ensures ∙ c.if-refusal_of-ne0.false) (omega arith))

pub loop-i-init : goal.loop-i-init
loop-i-init c = going_start (omega arith)

pub loop-i-preserved : goal.loop-i-preserved
loop-i-preserved c = going_more c.loop-i.invariant c.loop-i-test.true c.value_at-b.ensures.0 c.put_line-at.ensures.0 c.put_line-at.ensures.1

pub returns-clause-put : goal.returns-clause-put
returns-clause-put c = given_yes (all_accepted _ _ _ (ap (λ (w : ℕ). length c.args.raw.now / w) c.width.ensures.0) (sym c.refusal_of.ensures ∙ c.if-refusal_of-ne0.false) (omega arith)) (going_end c.loop-i.invariant c.loop-i-test.false (ap (λ (w : ℕ). length c.args.raw.now / w) c.width.ensures.0))
