use Rattle.std.proofs.Common.{arith}
use Rattle.text.proofs.decimal.Reading.{extends_low, extends_high, extends-over, extends_yes, extended_no, extended_is}
use Rattle.text.proofs.decimal.extended.Goals as goal
use Rattle.text.proofs.decimal.extended.Goals.{then-b-lt48-via-then-b-lt48, then-b-lt48-via-else-b-lt48+then-b-gt57, then-b-lt48-via-else-b-lt48+else-b-gt57+then-v-top}

pub returns-then-b-lt48 : goal.returns-then-b-lt48
returns-then-b-lt48 c =
    extended_no _ _ _ (elim c.then-b-lt48.branch [
      | then-b-lt48-via-then-b-lt48 w ↦ extends_low _ _ _ w.if-b-lt48.true
      | then-b-lt48-via-else-b-lt48+then-b-gt57 w ↦ extends_high _ _ _ w.if-b-lt48.false w.if-b-gt57.true
      | then-b-lt48-via-else-b-lt48+else-b-gt57+then-v-top w ↦ extends-over _ _ _ w.if-b-lt48.false w.if-b-gt57.false (omega (arith, w.if-v-top.true))
    ])

pub returns-then-d-top : goal.returns-then-d-top
returns-then-d-top c = extended_no _ _ _ (extends-over _ _ _ c.if-b-lt48.false c.if-b-gt57.false (omega (arith, c.from-d.ensures)))

pub returns : goal.returns
returns c = extended_is _ _ _ _ c.from-d.ensures (extends_yes _ _ _ c.if-b-lt48.false c.if-b-gt57.false (omega (arith, c.from-d.ensures)))
