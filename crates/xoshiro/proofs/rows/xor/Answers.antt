use Rattle.std.proofs.Common.{get_or, rules}
use lib.Bits.{bit_xor}
use Rattle.base.proofs.Arrays.{from_fn}
use Rattle.xoshiro.specs.rows.Rows.{xors}
use Rattle.xoshiro.proofs.rows.xor.Goals as goal

pub returns : goal.returns
unfolding xors
returns c = from_fn _ (λ i. bit_xor (get_or c.args.a i 0) (get_or c.args.b i 0)) (λ q i y h k. (search rules, search rules)) c.from_fn.ensures.items
