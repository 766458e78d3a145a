-- The parts in which one turn's cosine and sine are made.
use Rattle.std.specs.Prelude.{take, drop, Float}
use Rattle.std.specs.Float.{binary64}
use Rattle.std.specs.Float.Ieee.{mul}
use Rattle.floats.specs.patterns.Polynomial.{horner, over}
use Rattle.math.specs.Turns.{quarter, sin_coefficients64, cos_coefficients64, turned_sin, turned_cos}
use Rattle.math.specs.declared.cos_sin.CosSin.{CosSin}

-- ---- the polynomials of an angle th up to their coefficients 1 / 9! and 1 / 8!, and the sine and the cosine from what they came to there
unfoldable pub sin_start : Float → Float
sin_start th = horner binary64 (mul binary64 th th) (over binary64 355687428096000) (take 4 sin_coefficients64)

unfoldable pub sin_end : Float → Float → Float
sin_end th y = mul binary64 th (horner binary64 (mul binary64 th th) y (drop 4 sin_coefficients64))

unfoldable pub cos_start : Float → Float
cos_start th = horner binary64 (mul binary64 th th) (over binary64 20922789888000) (take 4 cos_coefficients64)

unfoldable pub cos_end : Float → Float → Float
cos_end th y = horner binary64 (mul binary64 th th) y (drop 4 cos_coefficients64)

-- those of the turn t, from the sine and the cosine of the angle that is left of it
unfoldable pub turned_of : Float → Float → Float → CosSin Float
turned_of t s c = let q = quarter binary64 t in record { cos = turned_cos q s c; sin = turned_sin q s c }
