use Prim.Native.Nat.{◌+◌, ◌*◌, ◌%◌}
use Rattle.base.proofs.Arrays.{from_fn}
use Rattle.base.specs.Engine.{draw_of}
use Rattle.std.proofs.Common.{rules}
use lib.ListN.{get_or}
use Rattle.elements.proofs.groups.draw_of.Goals as goal

pub returns : goal.returns
unfolding draw_of
returns c = from_fn _ (λ r. get_or c.args.b.now (c.args.i % 16 * 8 + r) 0) (λ q i y l k. search rules) c.from_fn.ensures.items
