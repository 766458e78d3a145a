-- The logarithm in parts is the logarithm. Assumes nothing.
use Rattle.std.proofs.Common.{◌≡◌, refl}
use lib.Ieee.{Float, binary64}
use Rattle.floats.specs.patterns.Polynomial.{horner}
use Rattle.math.specs.Ln.{coefficients64, reduced64, ln_bits64, ln}
use Rattle.math_f64.specs.ln.Parts.{ratio, parts_of, series_start, series_end}

pub whole : (x : Float) → (let p = parts_of x in series_end p.s p.e (series_start p.s)) ≡ ln binary64 x
unfolding parts_of ratio series_start series_end horner coefficients64 reduced64 ln_bits64 ln
whole x = refl
