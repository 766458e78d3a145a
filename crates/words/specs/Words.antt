-- Shifts and rotations of words, which are numbers below 2 ^ 64. Both are defined on every number, so that their laws carry no bound.
use Rattle.std.specs.Prelude.{ℕ, ◌+◌, ◌-◌, ◌*◌, ◌/◌, ◌%◌, ◌^◌, bit_xor}

-- x shifted left by k: what passes bit 63 is lost
unfoldable pub shl : ℕ → ℕ → ℕ
shl k x = x * 2 ^ k % 2 ^ 64

-- x rotated left by k, at most 64: the low 64 - k bits move up by k, and the k bits above them come round
unfoldable pub rotl : ℕ → ℕ → ℕ
rotl k x = x % 2 ^ (64 - k) * 2 ^ k + x / 2 ^ (64 - k) % 2 ^ k

-- x xored with itself shifted right by k
unfoldable pub xor_shifted : ℕ → ℕ → ℕ
xor_shifted k x = bit_xor x (x / 2 ^ k)
