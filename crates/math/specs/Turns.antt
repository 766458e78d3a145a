-- The sine and the cosine of t turns, math.rs, one lane: Cephes' polynomials in f32, Taylor's in f64. Each operation is rounded
-- once, in the Rust's order.
use Rattle.std.specs.Prelude.{Bool, cond, List, [], ◌∷◌, ℕ, ◌+◌, ◌/◌, ◌%◌, eqb, pos, Float}
use Rattle.std.specs.Float.{Format, binary32, binary64, fin}
use Rattle.std.specs.Float.Ieee.{add, sub, mul, neg, to_bits}
use Rattle.floats.specs.patterns.Numbers.{lit, minus_lit}
use Rattle.floats.specs.patterns.Polynomial.{horner, over}

-- 1.5 * 2 ^ 23, 1.5 * 2 ^ 52
abbrev pub magic : Format → Float
magic binary32 = lit binary32 12582912 0
magic binary64 = lit binary64 6755399441055744 0

-- 4 t + MAGIC, a sum that is rounded to a whole number; the low two bits of its pattern are the quarter that t is nearest to
unfoldable pub shifted : Format → Float → Float
shifted f t = add f (mul f (lit f 4 0) t) (magic f)

unfoldable pub quarter : Format → Float → ℕ
quarter f t = to_bits f (shifted f t) % 4

-- the Rust's q, (4 t + MAGIC) - MAGIC: a whole number of quarters
abbrev pub whole_quarters : Format → Float → Float
whole_quarters f t = sub f (shifted f t) (magic f)

-- the angle that is left, (t - q * 0.25) * TAU
unfoldable pub angle : Format → Float → Float
angle f t = mul f (sub f t (mul f (whole_quarters f t) (lit f 25 2))) (lit f 628318530717958647692528676655900577 35)

unfoldable pub sin_coefficients64 : List Float
sin_coefficients64 =
    neg (over binary64 1307674368000) ∷ over binary64 6227020800 ∷ neg (over binary64 39916800) ∷ over binary64 362880 ∷ neg (over binary64 5040) ∷ over binary64 120
    ∷ neg (over binary64 6) ∷ lit binary64 1 0 ∷ []

unfoldable pub cos_coefficients64 : List Float
cos_coefficients64 =
    neg (over binary64 87178291200) ∷ over binary64 479001600 ∷ neg (over binary64 3628800) ∷ over binary64 40320 ∷ neg (over binary64 720) ∷ over binary64 24
    ∷ minus_lit binary64 5 1 ∷ lit binary64 1 0 ∷ []

-- f32: th + th * z * (((-1.9515296e-4 * z) + 8.332161e-3) * z - 1.6666655e-1), for z = th * th
unfoldable pub sin_poly : Format → Float → Float
sin_poly binary32 th =
    let z = mul binary32 th th in
    let p = sub binary32 (mul binary32 (add binary32 (mul binary32 (minus_lit binary32 19515296 11) z) (lit binary32 8332161 9)) z) (lit binary32 16666655 8) in
    add binary32 th (mul binary32 (mul binary32 th z) p)
sin_poly binary64 th = mul binary64 th (horner binary64 (mul binary64 th th) (over binary64 355687428096000) sin_coefficients64)

-- f32: 1.0 - 0.5 * z + z * z * (((2.4433157e-5 * z) - 1.3887316e-3) * z + 4.1666646e-2)
unfoldable pub cos_poly : Format → Float → Float
cos_poly binary32 th =
    let z = mul binary32 th th in
    let p = add binary32 (mul binary32 (sub binary32 (mul binary32 (lit binary32 24433157 12) z) (lit binary32 13887316 10)) z) (lit binary32 41666646 9) in
    add binary32 (sub binary32 (lit binary32 1 0) (mul binary32 (lit binary32 5 1) z)) (mul binary32 (mul binary32 z z) p)
cos_poly binary64 th = horner binary64 (mul binary64 th th) (over binary64 20922789888000) cos_coefficients64

-- 1.0, or -1.0 if b
abbrev pub sign_of : Bool → Float
sign_of b = fin b 1 (pos 0)

-- a quarter q from 0 to 3 turns the sine s and the cosine c of the angle that is left into s, c, -s, -c and c, -s, -c, s
abbrev pub turned_sin : ℕ → Float → Float → Float
turned_sin q s c = let x = cond (eqb (q % 2) 1) c s in cond (eqb (q / 2 % 2) 1) (neg x) x

abbrev pub turned_cos : ℕ → Float → Float → Float
turned_cos q s c = let x = cond (eqb (q % 2) 1) s c in cond (eqb ((q + 1) / 2 % 2) 1) (neg x) x

unfoldable pub sin_turns : Format → Float → Float
sin_turns f t = turned_sin (quarter f t) (sin_poly f (angle f t)) (cos_poly f (angle f t))

unfoldable pub cos_turns : Format → Float → Float
cos_turns f t = turned_cos (quarter f t) (sin_poly f (angle f t)) (cos_poly f (angle f t))
