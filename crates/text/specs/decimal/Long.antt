-- Numbers held in two parts, so that a sum of two 64-bit numbers has a place.
use Rattle.std.specs.Prelude.{ℕ, ◌+◌, ◌*◌, ◌/◌, ◌%◌, ◌^◌, Bool, ◌&&◌, length, nat_le, nat_lt}
use Rattle.text.specs.declared.decimal.Long.{Long}
use Rattle.text.specs.decimal.Decimal.{decimal}

-- the number that is held
abbrev pub value_of : Long → ℕ
value_of w = w.high * 10 ^ 18 + w.low

-- n held: the lower part is less than 10 ^ 18
abbrev pub long_of : ℕ → Long
long_of n = record { high = n / 10 ^ 18; low = n % 10 ^ 18 }

-- w's lower part is less than 10 ^ 18, and its digits have room from place at on in a buffer of n bytes
abbrev pub fitting : Long → (at n : ℕ) → Bool
fitting w at n = nat_lt w.low (10 ^ 18) && nat_le (at + length (decimal (value_of w))) n
