-- The cosine and the sine in parts are the cosine and the sine. Assumes nothing.
use Rattle.std.proofs.Common.{◌≡◌, refl}
use lib.Ieee.{Float, binary64}
use Rattle.floats.specs.patterns.Polynomial.{horner}
use Rattle.math.specs.Turns.{angle, sin_coefficients64, cos_coefficients64, sin_poly, cos_poly, sin_turns, cos_turns}
use Rattle.math_f64.specs.sincos_turns.Lanes.{sin_start, sin_end, cos_start, cos_end, turned_of}
use Rattle.math.specs.Lanes.{lane_of}

pub whole : (t : Float) → (let th = angle binary64 t in turned_of t (sin_end th (sin_start th)) (cos_end th (cos_start th))) ≡ lane_of binary64 t
unfolding turned_of lane_of sin_start sin_end cos_start cos_end horner sin_coefficients64 cos_coefficients64 sin_poly cos_poly sin_turns cos_turns
whole t = refl
