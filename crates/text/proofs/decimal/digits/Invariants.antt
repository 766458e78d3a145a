use Rattle.std.proofs.Common.{◌≡◌, ◌+◌, ◌≤◌, length}
use Rattle.text.specs.decimal.Decimal.{decimal}
use Rattle.text.proofs.decimal.digits.Given as goal

abbrev pub invariant-loop-w : goal.invariant-loop-w
invariant-loop-w l = (length (decimal l.v) ≡ length (decimal l.w) + l.n) × (length (decimal l.v) ≤ 20)

abbrev pub decreases-loop-w : goal.decreases-loop-w
decreases-loop-w l = l.w
