use Prim.Native.Nat.{ℕ, ◌≤◌, ◌<◌}
use lib.Bits.{and_mask}
use lib.Ieee.{binary64, of_bits, div}
use mathlib.Core.Path.{sym, subst}
use Rattle.floats.proofs.patterns.Nan.{nan_pattern, number_pattern}
use Rattle.floats.proofs.patterns.from_bits_f64.Goals as goal

pub float_from_bits-result : goal.float_from_bits-result
float_from_bits-result c = number_pattern binary64 _ (subst (λ (n : ℕ). n ≤ 0x7FF0_0000_0000_0000) (and_mask _ 63) c.if-b-gt9218868437227405312.false)

pub returns-then-b-gt9218868437227405312 : goal.returns-then-b-gt9218868437227405312
unfolding div of_bits
returns-then-b-gt9218868437227405312 c = let b = c.args.b in sym (nan_pattern binary64 b (subst (λ (n : ℕ). 0x7FF0_0000_0000_0000 < n) (and_mask b 63) c.if-b-gt9218868437227405312.true))
