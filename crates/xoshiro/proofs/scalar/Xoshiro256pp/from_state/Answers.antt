use Rattle.std.proofs.Common.{sym, ◌∙◌}
use Rattle.xoshiro.specs.scalar.Calls.{checked}
use Rattle.xoshiro.proofs.scalar.Xoshiro256pp.from_state.Goals as goal

pub returns-then-is_zero : goal.returns-then-is_zero
unfolding checked
returns-then-is_zero c = simp (sym c.is_zero.ensures ∙ c.if-is_zero.true)

pub returns : goal.returns
unfolding checked
returns c = simp (sym c.is_zero.ensures ∙ c.if-is_zero.false)
