-- Reading a decimal number from a text: what is read is what `decimal` writes, so no zero stands in front.
use Rattle.std.specs.Prelude.{ℕ, ◌+◌, ◌-◌, ◌*◌, Bool, cond, ◌&&◌, List, [], ◌∷◌, drop, ◌==◌, nat_le, Option, Some, None}
use Rattle.text.specs.declared.decimal.Number.{Number}

-- b is a digit in ASCII, and v with it behind is at most top
unfoldable pub extends : (top v b : ℕ) → Bool
extends top v b = nat_le 48 b && (nat_le b 57 && nat_le (v * 10 + (b - 48)) top)

-- the value of v with b behind, where it may stand there
abbrev pub extended : (top v b : ℕ) → Option ℕ
extended top v b = cond (extends top v b) (Some (v * 10 + (b - 48))) None

-- n was read, and i is the place behind the byte that ends it
abbrev pub read : (n i : ℕ) → Option Number
read n i = Some (record { value = n; next = i })

-- the rest of a number whose digits so far have the value v, at place i of a text: digits up to the byte stop, the value
-- never above top. Behind a zero no digit may stand
unfoldable pub number_on : (top stop v i : ℕ) → List ℕ → Option Number
number_on top stop v i [] = None
number_on top stop v i (b ∷ s) =
    cond (b == stop) (read v (i + 1))
    (cond (nat_le 1 v && extends top v b) (number_on top stop (v * 10 + (b - 48)) (i + 1) s) None)

-- a number that begins at place i of a text
unfoldable pub number_from : (top stop i : ℕ) → List ℕ → Option Number
number_from top stop i [] = None
number_from top stop i (b ∷ s) = cond (extends top 0 b) (number_on top stop (b - 48) (i + 1) s) None

-- the number that stands in s from place at on, up to the byte stop
abbrev pub number_at : (top stop : ℕ) → List ℕ → ℕ → Option Number
number_at top stop s at = number_from top stop at (drop at s)
