use Rattle.std.proofs.Common.{◌+◌, get_or, rules}
use Rattle.base.proofs.Arrays.{from_fn}
use Rattle.philox.proofs.draws.half.Goals as goal

pub returns : goal.returns
returns c = from_fn _ (λ i. get_or c.args.both.now (c.args.first + i) 0) (λ q i y h k. (search rules, search rules)) c.from_fn.ensures.items
