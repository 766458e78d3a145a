use Rattle.std.proofs.Common.{◌+◌, ◌*◌, ◌^◌, get_or, rules}
use Rattle.base.proofs.Arrays.{from_fn}
use Rattle.philox.specs.x8.Machine.{join_of}
use Rattle.philox.proofs.x8.joined.Goals as goal

pub returns : goal.returns
unfolding join_of
returns c = from_fn _ (λ i. get_or c.args.lo i 0 + 2 ^ 32 * get_or c.args.hi i 0) (λ q i y h k. (search rules, search rules)) c.from_fn.ensures.items
