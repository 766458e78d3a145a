use Prim.Native.Nat.{◌*◌}
use lib.ListN.{drop}
use Rattle.fills.proofs.Buffered.{Grouping}
use Rattle.fills.specs.Buffer.{bytes_kind}
use Rattle.fills.specs.Kinds.{normal_f32s}
use Rattle.normals.proofs.normal_f32s.bytes_of_eight.Given as goal

abbrev pub invariant-loop-j : goal.invariant-loop-j
invariant-loop-j l = Grouping (bytes_kind normal_f32s) (drop (1 * l.g * 8) l.b) l.initial.out l.at 8 l.out l.j
