use Rattle.std.proofs.Common.{sym}
use Rattle.xoshiro_steps.proofs.Bits.{zero_highest, word_highest}
use Rattle.xoshiro.proofs.scalar.highest_bit.Goals as goal

pub returns-then-word-eq0 : goal.returns-then-word-eq0
returns-then-word-eq0 c = sym (zero_highest _ c.if-word-eq0.true)

pub returns : goal.returns
returns c = word_highest _ c.if-word-eq0.false c.ranges.word.fits
