-- The natural logarithm of math.rs, one lane: Cephes' logf in f32, the series of atanh in f64. Each operation is rounded once, in the Rust's order.
use Rattle.std.specs.Prelude.{Bool, cond, List, [], ◌∷◌, ℕ, ◌+◌, ◌*◌, ◌/◌, ◌%◌, ◌^◌, Float}
use Rattle.std.proofs.Math.IntN.{sub_ℕ}
use Rattle.std.specs.Float.{Format, binary32, binary64}
use Rattle.std.specs.Float.Ieee.{add, sub, mul, div, lt, of_int, of_bits, to_bits}
use Rattle.floats.specs.patterns.Numbers.{lit, minus_lit}
use Rattle.floats.specs.patterns.Polynomial.{horner, over}

-- sqrt(2)
abbrev pub root2 : Format → Float
root2 f = lit f 141421356237309504880168872420969808 35

-- ---- f32

-- the field above the digits less 127 (the sign counts in it, as in the Rust), and 1 more if m was halved
unfoldable pub exponent32 : ℕ → Bool → Float
exponent32 bits halved = of_int binary32 (sub_ℕ (bits / 2 ^ 23 + cond halved 1 0) 127)

unfoldable pub coefficients32 : List Float
coefficients32 =
    minus_lit binary32 1151461 7 ∷ lit binary32 11676999 8 ∷ minus_lit binary32 12420141 8 ∷ lit binary32 14249323 8 ∷ minus_lit binary32 16668058 8 ∷ lit binary32 20000715 8
    ∷ minus_lit binary32 24999994 8 ∷ lit binary32 33333334 8 ∷ []

-- of m * 2 ^ e, for m in [sqrt(1/2), sqrt(2)]
unfoldable pub reduced32 : Float → Float → Float
reduced32 m e =
    let f = sub binary32 m (lit binary32 1 0) in
    let z = mul binary32 f f in
    let p = horner binary32 f (lit binary32 70376836 9) coefficients32 in
    let y = mul binary32 (mul binary32 p f) z in
    let y' = add binary32 y (mul binary32 e (minus_lit binary32 21219444 11)) in
    let y'' = sub binary32 y' (mul binary32 (lit binary32 5 1) z) in
    add binary32 (add binary32 f y'') (mul binary32 e (lit binary32 6933594 7))

-- of a pattern: m is the digits behind a 1, and it is halved if it is above sqrt(2)
unfoldable pub ln_bits32 : ℕ → Float
ln_bits32 b =
    let m = of_bits binary32 (127 * 2 ^ 23 + b % 2 ^ 23) in
    let big = lt (root2 binary32) m in
    reduced32 (cond big (mul binary32 m (lit binary32 5 1)) m) (exponent32 b big)

-- ---- f64

-- the field above the digits, by the pattern of 2 ^ 52, less 2 ^ 52 + 1023
unfoldable pub exponent64 : ℕ → Float
exponent64 b = sub binary64 (of_bits binary64 (1075 * 2 ^ 52 + b / 2 ^ 52)) (add binary64 (lit binary64 4503599627370496 0) (lit binary64 1023 0))

unfoldable pub coefficients64 : List Float
coefficients64 = over binary64 21 ∷ over binary64 19 ∷ over binary64 17 ∷ over binary64 15 ∷ over binary64 13 ∷ over binary64 11 ∷ over binary64 9 ∷ over binary64 7 ∷ over binary64 5 ∷ over binary64 3 ∷ []

unfoldable pub reduced64 : Float → Float → Float
reduced64 m e =
    let f = sub binary64 m (lit binary64 1 0) in
    let s = div binary64 f (add binary64 (lit binary64 2 0) f) in
    let z = mul binary64 s s in
    let p = horner binary64 z (over binary64 23) coefficients64 in
    let d = mul binary64 (lit binary64 2 0) s in
    let r = add binary64 d (mul binary64 (mul binary64 d z) p) in
    add binary64 (mul binary64 e (lit binary64 6931471803691238 16)) (add binary64 r (mul binary64 e (lit binary64 19082149292705877 26)))

unfoldable pub ln_bits64 : ℕ → Float
ln_bits64 b =
    let m = of_bits binary64 (1023 * 2 ^ 52 + b % 2 ^ 52) in
    let big = lt (root2 binary64) m in
    reduced64 (cond big (mul binary64 m (lit binary64 5 1)) m) (cond big (add binary64 (exponent64 b) (lit binary64 1 0)) (exponent64 b))

-- ---- of a float
unfoldable pub ln : Format → Float → Float
ln binary32 x = ln_bits32 (to_bits binary32 x)
ln binary64 x = ln_bits64 (to_bits binary64 x)
