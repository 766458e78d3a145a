-- Philox4x32-10, from Salmon, Moraes, Dror and Shaw, "Parallel Random Numbers: As Easy as 1, 2, 3" (SC11, 2011). Words are of 32 bits.
use Rattle.std.specs.Prelude.{ℕ, zero, suc, ◌+◌, ◌*◌, ◌/◌, ◌%◌, ◌^◌, bit_xor}
use Rattle.base.specs.Table.{table}
use Rattle.base.specs.Quad.{Quad}
use Rattle.philox.specs.declared.block.Group.{Group}

-- the multipliers, and what each round adds to the key words
abbrev pub m0 : ℕ
m0 = 0xD251_1F53

abbrev pub m1 : ℕ
m1 = 0xCD9E_8D57

abbrev pub bump0 : ℕ
bump0 = 0x9E37_79B9

abbrev pub bump1 : ℕ
bump1 = 0xBB67_AE85

-- one round under the key words k0 and k1
unfoldable pub round : ℕ → ℕ → Quad → Quad
round k0 k1 c =
    record {
      w0 = bit_xor (bit_xor (m1 * c.w2 / 2 ^ 32) c.w1) k0;
      w1 = m1 * c.w2 % 2 ^ 32;
      w2 = bit_xor (bit_xor (m0 * c.w0 / 2 ^ 32) c.w3) k1;
      w3 = m0 * c.w0 % 2 ^ 32;
    }

-- a key word after i rounds, each of which adds w
unfoldable pub key_at : ℕ → ℕ → ℕ → ℕ
key_at w zero k = k
key_at w (suc i) k = (key_at w i k + w) % 2 ^ 32

-- the first i rounds
unfoldable pub rounds : ℕ → ℕ → ℕ → Quad → Quad
rounds zero k0 k1 c = c
rounds (suc i) k0 k1 c = round (key_at bump0 i k0) (key_at bump1 i k1) (rounds i k0 k1 c)

-- the counter of block n of stream s
unfoldable pub counter_of : ℕ → ℕ → Quad
counter_of s n = record { w0 = n % 2 ^ 32; w1 = n / 2 ^ 32; w2 = s % 2 ^ 32; w3 = s / 2 ^ 32 }

unfoldable pub block : ℕ → ℕ → ℕ → ℕ → Quad
block k0 k1 s n = rounds 10 k0 k1 (counter_of s n)

-- blocks n to n + 7, each modulo 2 ^ 64, as rows of words
unfoldable pub group_of : ℕ → ℕ → ℕ → ℕ → Group
group_of k0 k1 s n =
    record {
      w0 = table 8 (λ i. (block k0 k1 s ((n + i) % 2 ^ 64)).w0);
      w1 = table 8 (λ i. (block k0 k1 s ((n + i) % 2 ^ 64)).w1);
      w2 = table 8 (λ i. (block k0 k1 s ((n + i) % 2 ^ 64)).w2);
      w3 = table 8 (λ i. (block k0 k1 s ((n + i) % 2 ^ 64)).w3);
    }
