use Prim.Native.Nat.{◌+◌, ◌*◌}
use Rattle.base.proofs.Arrays.{from_fn}
use Rattle.std.proofs.Common.{rules}
use lib.Ieee.{nan}
use lib.ListN.{get_or}
use Rattle.normals.proofs.normal_f32s.eight_of.Goals as goal

pub returns : goal.returns
returns c = from_fn _ (λ k. get_or c.args.x.now (c.args.j * 8 + k) nan) (λ q i y l k. search rules) c.from_fn.ensures.items
