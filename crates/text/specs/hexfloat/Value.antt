-- What a text in C's hexadecimal notation denotes: the double that is nearest to the number written, as strtod reads it (C17 7.22.1.3).
use Rattle.std.specs.Prelude.{ℕ, ◌+◌, ◌-◌, ◌*◌, ◌^◌, Bool, true, false, cond, List, [], ◌∷◌, drop, ◌==◌, nat_le, slice_index, Float}
use Rattle.std.specs.Float.{nan, inf, binary64}
use Rattle.std.specs.Float.Ieee.{round}

-- what an ASCII digit stands for
unfoldable pub digit_of : ℕ → ℕ
digit_of c = cond (nat_le c 57) (c - 48) (c - 87)

-- the decimal number of the digits in a text, behind those of v
unfoldable pub count_of : (v : ℕ) → List ℕ → ℕ
count_of v [] = v
count_of v (c ∷ t) = count_of (v * 10 + (c - 48)) t

-- q / 16^n, with the sign s, times the power of 2 of the exponent's text, a sign and decimal digits
unfoldable pub scaled : (s : Bool) (q n : ℕ) → List ℕ → Float
scaled s q n [] = nan
scaled s q n (c ∷ t) = cond (c == 45) (round binary64 s q (16 ^ n * 2 ^ count_of 0 t)) (round binary64 s (q * 2 ^ count_of 0 t) (16 ^ n))

-- digits, perhaps a point, and p: q are the digits so far, n of them behind the point
unfoldable pub number_on : (s point : Bool) (q n : ℕ) → List ℕ → Float
number_on s point q n [] = nan
number_on s point q n (c ∷ t) =
    cond (c == 46) (number_on s true q n t)
    (cond (c == 112) (scaled s q n t) (number_on s point (q * 16 + digit_of c) (cond point (n + 1) n) t))

-- i for an infinity, n for a NaN, else 0x and a number
unfoldable pub unsigned : Bool → List ℕ → Float
unsigned s t = cond (slice_index t 0 == 105) (inf s) (cond (slice_index t 0 == 110) nan (number_on s false 0 0 (drop 2 t)))

-- a minus or none, and the rest
unfoldable pub value_of : List ℕ → Float
value_of t = cond (slice_index t 0 == 45) (unsigned true (drop 1 t)) (unsigned false t)
