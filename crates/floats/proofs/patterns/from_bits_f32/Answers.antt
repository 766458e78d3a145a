use Prim.Native.Nat.{ℕ, ◌≤◌, ◌<◌}
use lib.Bits.{and_mask}
use lib.Ieee.{binary32, of_bits, div}
use mathlib.Core.Path.{sym, subst}
use Rattle.floats.proofs.patterns.Nan.{nan_pattern, number_pattern}
use Rattle.floats.proofs.patterns.from_bits_f32.Goals as goal

pub float_from_bits-result : goal.float_from_bits-result
float_from_bits-result c = number_pattern binary32 _ (subst (λ (n : ℕ). n ≤ 0x7F80_0000) (and_mask _ 31) c.if-b-gt2139095040.false)

pub returns-then-b-gt2139095040 : goal.returns-then-b-gt2139095040
unfolding div of_bits
returns-then-b-gt2139095040 c = let b = c.args.b in sym (nan_pattern binary32 b (subst (λ (n : ℕ). 0x7F80_0000 < n) (and_mask b 31) c.if-b-gt2139095040.true))
