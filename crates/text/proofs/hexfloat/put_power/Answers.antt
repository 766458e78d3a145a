use Rattle.text.proofs.hexfloat.Laws.{power_low, power_high}
use Rattle.text.proofs.hexfloat.put_power.Goals as goal

pub returns-then-e-lt1023 : goal.returns-then-e-lt1023
returns-then-e-lt1023 c = power_low _ c.if-e-lt1023.true c.requires.1 c.put_all-m.ensures c.put_number.ensures

pub returns : goal.returns
returns c = power_high _ c.if-e-lt1023.false c.requires.0 c.requires.1 c.put_all-m-2.ensures c.put_number-2.ensures
