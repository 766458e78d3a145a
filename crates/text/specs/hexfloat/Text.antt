-- The text of a binary64 pattern in C's exact hexadecimal notation (C17 7.21.6.1, conversion a), as glibc's printf("%a") writes it where the
-- standard leaves a choice: as few digits as are exact, a first digit of 1 for a normal number and of 0 for a subnormal one.
use Rattle.std.specs.Prelude.{ℕ, zero, suc, ◌+◌, ◌-◌, ◌/◌, ◌%◌, ◌^◌, Bool, cond, List, [], ◌∷◌, ◌++◌, ◌==◌, from_bits, nat_le, nat_lt, to_bits}
use Rattle.std.specs.Float.{binary32, binary64}
use Rattle.text.specs.decimal.Decimal.{decimal, last_digits}

-- a digit in ASCII: 0 to 9, a to f
unfoldable pub hex_digit : ℕ → ℕ
hex_digit d = cond (nat_lt d 10) (48 + d) (87 + d)

-- the last k hexadecimal digits of n
abbrev pub hex_padded : (k n : ℕ) → List ℕ
hex_padded k n = last_digits 16 hex_digit k n

-- the same up to the last that isn't 0
unfoldable pub stripped : (k n : ℕ) → List ℕ
stripped zero n = []
stripped (suc k) n = cond (n % 16 == 0) (stripped k (n / 16)) (hex_padded (suc k) n)

-- a point and the digits of the fraction t / 2^52, or nothing where it is 0
unfoldable pub fraction : ℕ → List ℕ
fraction t = cond (t == 0) [] (46 ∷ stripped 13 t)

-- p and the power of 2 that the exponent's field e stands for, signed
unfoldable pub power : ℕ → List ℕ
power e = 112 ∷ cond (nat_le 1023 e) (43 ∷ decimal (e - 1023)) (45 ∷ decimal (1023 - e))

-- 0x, the digit before the point, those behind it, and the power
unfoldable pub number : (lead t e : ℕ) → List ℕ
number lead t e = (48 ∷ 120 ∷ (48 + lead) ∷ []) ++ (fraction t ++ power e)

-- of the exponent's field and the fraction's field (IEEE 754, 3.4): inf, nan, 0x0p+0, a subnormal number, a normal one
unfoldable pub magnitude : (x t : ℕ) → List ℕ
magnitude x t =
    cond (x == 2047) (cond (t == 0) (105 ∷ 110 ∷ 102 ∷ []) (110 ∷ 97 ∷ 110 ∷ []))
    (cond (x == 0) (cond (t == 0) (number 0 0 1023) (number 0 t 1)) (number 1 t x))

-- a sign
unfoldable pub minus : Bool → List ℕ
minus s = cond s (45 ∷ []) []

-- of a binary64 pattern
unfoldable pub hex_text : ℕ → List ℕ
hex_text b = minus (nat_le (2 ^ 63) b) ++ magnitude (b % 2 ^ 63 / 2 ^ 52) (b % 2 ^ 52)

-- the binary64 pattern of the value of a binary32 pattern: C passes a float to printf as a double
unfoldable pub widened : ℕ → ℕ
widened b = to_bits binary64 (from_bits binary32 b)
