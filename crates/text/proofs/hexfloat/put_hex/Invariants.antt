use Rattle.text.proofs.decimal.Backward.{Backward}
use Rattle.text.specs.hexfloat.Text.{hex_digit}
use Rattle.text.proofs.hexfloat.put_hex.Given as goal

abbrev pub invariant-loop-j : goal.invariant-loop-j
invariant-loop-j l = Backward 16 hex_digit l.v l.k l.at l.initial.out l.w l.j l.out
