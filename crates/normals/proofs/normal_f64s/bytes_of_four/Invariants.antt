use Prim.Native.Nat.{◌*◌}
use lib.ListN.{drop}
use Rattle.fills.proofs.Buffered.{Grouping}
use Rattle.fills.specs.Buffer.{bytes_kind}
use Rattle.fills.specs.Kinds.{normal_f64s}
use Rattle.normals.proofs.normal_f64s.bytes_of_four.Given as goal

abbrev pub invariant-loop-j : goal.invariant-loop-j
invariant-loop-j l = Grouping (bytes_kind normal_f64s) (drop (2 * l.g * 8) l.b) l.initial.out l.at 4 l.out l.j
