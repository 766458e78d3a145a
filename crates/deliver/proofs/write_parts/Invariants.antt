use Rattle.std.proofs.Common.{◌≡◌, length}
use Rattle.delivery.proofs.parts.Looping.{Looping}
use Rattle.deliver.proofs.write_parts.Given as goal

abbrev pub invariant-loop-rest : goal.invariant-loop-rest
invariant-loop-rest l = (length l.initial.values ≡ length l.values) × (length l.initial.out ≡ length l.out) × Looping l.initial.rest l.values l.out l.rest

abbrev pub decreases-loop-rest : goal.decreases-loop-rest
decreases-loop-rest l = l.rest.left
