-- A polynomial by Horner's rule, each operation rounded once; and a quotient that is a coefficient.
use Rattle.std.specs.Prelude.{List, [], ◌∷◌, ℕ, Float}
use Rattle.std.specs.Float.{Format}
use Rattle.std.specs.Float.Ieee.{add, mul, div}
use Rattle.floats.specs.patterns.Numbers.{lit}

-- ((y * x + c) * x + c') * x + .. The Rust's `y * x - k` is `y * x + -k`, which IEEE 754 makes the same.
unfoldable pub horner : Format → Float → Float → List Float → Float
horner f x y [] = y
horner f x y (c ∷ cs) = horner f x (add f (mul f y x) c) cs

-- 1.0 / n
abbrev pub over : Format → ℕ → Float
over f n = div f (lit f 1 0) (lit f n 0)
