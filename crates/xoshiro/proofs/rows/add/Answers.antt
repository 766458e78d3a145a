use Rattle.std.proofs.Common.{◌+◌, ◌%◌, ◌^◌, get_or, rules}
use Rattle.base.proofs.Arrays.{from_fn}
use Rattle.xoshiro.specs.rows.Rows.{sums}
use Rattle.xoshiro.proofs.rows.add.Goals as goal

pub returns : goal.returns
unfolding sums
returns c = from_fn _ (λ i. (get_or c.args.a i 0 + get_or c.args.b i 0) % 2 ^ 64) (λ q i y h k. (search rules, search rules)) c.from_fn.ensures.items
