use Rattle.std.proofs.Common.{arith}
use Rattle.text.proofs.lines.Values.{four_at}
use Rattle.text.proofs.lines.value_at.Goals as goal

pub returns-then-width-eq4 : goal.returns-then-width-eq4
returns-then-width-eq4 c = (four_at c.width.ensures.0 _ _ (λ j. omega (arith, c.shared_slice_known-1.given j)) c.if-width-eq4.true c.word_at.ensures, λ e. omega arith)
