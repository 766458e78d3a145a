use Rattle.std.proofs.Common.{ℕ, not, T, sym, ap, subst, arith, rules}
use lib.Ieee.Bits.{to_bits-lt}
use lib.Ieee.{binary64, div, nan_bits, of_bits}
use Rattle.math.proofs.Guess.{bounds64, outside, between, pattern_of}
use Rattle.math.specs.Sqrt.{guess_of}
use Rattle.math_f64.proofs.sqrt.guess.Goals as goal

pub float_from_bits-result : goal.float_from_bits-result
unfolding of_bits
float_from_bits-result c =
    let v = c.args.v in
    let sub = c.wrapping_sub_u64 in
    subst (λ (b : ℕ). T (not (nan_bits binary64 b))) (sym (pattern_of binary64 0x5FE6_EB50_C7B5_37A9 v sub.result (omega arith) (search rules) (omega arith) sub.ensures.value))
    (outside bounds64 v (search rules) (to_bits-lt binary64 v (search rules)) c.if-v.true)

pub returns-then-v : goal.returns-then-v
unfolding guess_of
returns-then-v c = λ _.
    let sub = c.wrapping_sub_u64 in
    ap (of_bits binary64) (pattern_of binary64 0x5FE6_EB50_C7B5_37A9 c.args.v sub.result (omega arith) (search rules) (omega arith) sub.ensures.value)

pub returns-else-v : goal.returns-else-v
unfolding guess_of div of_bits
returns-else-v c = λ g. sym (between bounds64 c.args.v (search rules) c.if-v.false g)
