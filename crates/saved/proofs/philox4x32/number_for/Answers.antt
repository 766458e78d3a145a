use Rattle.std.proofs.Common.{refl}
use Rattle.saved.proofs.philox4x32.Moves.{number_waiting, number-none}
use Rattle.saved.proofs.philox4x32.number_for.Goals as goal

pub returns-then-word_at-eq1 : goal.returns-then-word_at-eq1
returns-then-word_at-eq1 c =
    number_waiting _ c.word_at.ensures c.if-word_at-eq1.true c.word_at-then-word_at-eq1.ensures refl

pub returns-else-word_at-eq1 : goal.returns-else-word_at-eq1
returns-else-word_at-eq1 c = number-none _ c.word_at.ensures c.if-word_at-eq1.false
