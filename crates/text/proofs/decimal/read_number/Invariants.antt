use Rattle.std.proofs.Common.{◌≡◌, drop}
use Rattle.text.specs.decimal.Number.{number_at, number_on}
use Rattle.text.proofs.decimal.read_number.Given as goal

abbrev pub invariant-loop-i : goal.invariant-loop-i
invariant-loop-i l = number_at l.top l.stop l.s l.at ≡ number_on l.top l.stop l.value l.i (drop l.i l.s)
