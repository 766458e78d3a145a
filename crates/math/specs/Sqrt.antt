-- The square root of math.rs, one lane. Each operation is rounded once, in the Rust's order.
use Rattle.std.specs.Prelude.{◌+◌, ◌-◌, ◌/◌, ◌%◌, ◌^◌, Float}
use Rattle.std.specs.Float.{Format, binary32, binary64}
use Rattle.std.specs.Float.Ieee.{add, sub, mul, of_bits, to_bits}
use Rattle.floats.specs.patterns.Numbers.{lit}

-- a guess at 1 / sqrt(v): a constant less half the pattern, in wrapping arithmetic, is the guess's pattern
unfoldable pub guess_of : Format → Float → Float
guess_of binary32 v = of_bits binary32 ((0x5F37_5A86 + (2 ^ 32 - to_bits binary32 v / 2)) % 2 ^ 32)
guess_of binary64 v = of_bits binary64 ((0x5FE6_EB50_C7B5_37A9 + (2 ^ 64 - to_bits binary64 v / 2)) % 2 ^ 64)

-- Newton's step, y * (1.5 - 0.5 * v * y * y)
unfoldable pub newton_step : Format → Float → Float → Float
newton_step f v y = mul f y (sub f (lit f 15 1) (mul f (mul f (mul f (lit f 5 1) v) y) y))

-- s + 0.5 * y * (v - s * s), for s = v * y
unfoldable pub corrected : Format → Float → Float → Float
corrected f v y = let s = mul f v y in add f s (mul f (mul f (lit f 5 1) y) (sub f v (mul f s s)))

unfoldable pub sqrt : Format → Float → Float
sqrt binary32 v = let step = newton_step binary32 v in corrected binary32 v (step (step (guess_of binary32 v)))
sqrt binary64 v = let step = newton_step binary64 v in corrected binary64 v (step (step (step (guess_of binary64 v))))
