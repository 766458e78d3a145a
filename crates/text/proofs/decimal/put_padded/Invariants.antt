use Rattle.std.proofs.Common.{◌+◌, ◌*◌}
use Rattle.text.proofs.decimal.Backward.{Backward10}
use Rattle.text.proofs.decimal.put_padded.Given as goal

abbrev pub invariant-loop-pair : goal.invariant-loop-pair
invariant-loop-pair l = Backward10 l.v l.k l.at l.initial.out l.w (l.odd + 2 * l.pair) l.out
