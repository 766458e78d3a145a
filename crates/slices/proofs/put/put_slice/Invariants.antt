use lib.ListN.{length}
use Rattle.base.proofs.Stored.{Putting}
use Rattle.slices.proofs.put.put_slice.Given as goal

abbrev pub invariant-loop-k : goal.invariant-loop-k
invariant-loop-k g l = Putting (length l.v) l.initial.out l.at l.v l.n l.out l.k
