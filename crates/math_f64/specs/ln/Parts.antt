-- The logarithm of a float in parts. The float is m * 2 ^ e: m is the digits behind a 1, halved if that is above sqrt(2); e is the field
-- above the digits less 1023, and 1 more if m was halved. The logarithm of m is a series in s = (m - 1) / (m + 1), cut in two.
use Rattle.std.specs.Prelude.{ℕ, ◌+◌, ◌*◌, ◌%◌, ◌^◌, cond, take, drop, from_bits, to_bits, Float}
use Rattle.std.specs.Float.{binary64}
use Rattle.std.specs.Float.Ieee.{add, sub, mul, div, lt}
use Rattle.floats.specs.patterns.Numbers.{lit}
use Rattle.floats.specs.patterns.Polynomial.{horner, over}
use Rattle.math.specs.Ln.{root2, exponent64, coefficients64}
use Rattle.math_f64.specs.declared.ln.Parts.{Parts}

abbrev pub digits : ℕ → Float
digits b = from_bits binary64 (1023 * 2 ^ 52 + b % 2 ^ 52)

abbrev pub halved : Float → Float
halved m = cond (lt (root2 binary64) m) (mul binary64 m (lit binary64 5 1)) m

abbrev pub raised : Float → Float → Float
raised m e = cond (lt (root2 binary64) m) (add binary64 e (lit binary64 1 0)) e

unfoldable pub ratio : Float → Float
ratio m = let f = sub binary64 m (lit binary64 1 0) in div binary64 f (add binary64 (lit binary64 2 0) f)

unfoldable pub parts_of : Float → Parts
parts_of x =
    let b = to_bits binary64 x in
    record { s = ratio (halved (digits b)); e = raised (digits b) (exponent64 b) }

-- the polynomial in s * s, up to its coefficient 1 / 13
unfoldable pub series_start : Float → Float
series_start s = horner binary64 (mul binary64 s s) (over binary64 23) (take 5 coefficients64)

-- the logarithm, from what the polynomial y came to there
unfoldable pub series_end : Float → Float → Float → Float
series_end s e y =
    let z = mul binary64 s s in
    let p = horner binary64 z y (drop 5 coefficients64) in
    let d = mul binary64 (lit binary64 2 0) s in
    let r = add binary64 d (mul binary64 (mul binary64 d z) p) in
    add binary64 (mul binary64 e (lit binary64 6931471803691238 16)) (add binary64 r (mul binary64 e (lit binary64 19082149292705877 26)))
