-- xoshiro256++ and its jumps, from Blackman and Vigna, "Scrambled Linear Pseudorandom Number Generators" (2021), and their reference code xoshiro256plusplus.c.
use Rattle.std.specs.Prelude.{List, [], ◌∷◌, Bool, cond, ◌&&◌, ℕ, zero, suc, ◌+◌, ◌/◌, ◌%◌, ◌^◌, get_or, eqb}
use Rattle.std.specs.Int.Bits.{bit_xor}
use Rattle.base.specs.Iterate.{iterate}
use Rattle.base.specs.Quad.{Quad}
use Rattle.words.specs.Words.{shl, rotl}

-- the words s0 to s3
abbrev pub State : Type 0
State = Quad

-- what a step returns
unfoldable pub output : State → ℕ
output s = (rotl 23 ((s.w0 + s.w3) % 2 ^ 64) + s.w0) % 2 ^ 64

-- the state after it
unfoldable pub step : State → State
step s =
    let s2 = bit_xor s.w2 s.w0 in
    let s3 = bit_xor s.w3 s.w1 in
    record { w0 = bit_xor s.w0 s3; w1 = bit_xor s.w1 s2; w2 = bit_xor s2 (shl 17 s.w1); w3 = rotl 45 s3 }

abbrev pub steps : ℕ → State → State
steps = iterate step

-- ---- jumps
-- the xor of two states, word by word, and its zero
unfoldable pub plus : State → State → State
plus a b = record { w0 = bit_xor a.w0 b.w0; w1 = bit_xor a.w1 b.w1; w2 = bit_xor a.w2 b.w2; w3 = bit_xor a.w3 b.w3 }

unfoldable pub none : State
none = record { w0 = 0; w1 = 0; w2 = 0; w3 = 0 }

-- bit k of a polynomial: word 0 first, bit 0 of each word first
unfoldable pub bit_of : List ℕ → ℕ → ℕ
bit_of poly k = get_or poly (k / 64) 0 / 2 ^ (k % 64) % 2

-- a state where the bit is set, none where it is clear
unfoldable pub times : ℕ → State → State
times zero s = none
times (suc b) s = s

-- the sum after k bits: a set bit adds the state after as many steps as there were bits before it
unfoldable pub summed : List ℕ → ℕ → State → State
summed poly zero s = none
summed poly (suc k) s = plus (summed poly k s) (times (bit_of poly k) (steps k s))

unfoldable pub jumped : List ℕ → State → State
jumped poly s = summed poly 256 s

-- the place of the highest set bit of the first k, counted from bit 0 of word 0; 0 where none of them is set
unfoldable pub highest_below : List ℕ → ℕ → ℕ
highest_below poly zero = 0
highest_below poly (suc k) = cond (eqb (bit_of poly k) 0) (highest_below poly k) k

-- the highest of all 256: no state after it is added to the sum
unfoldable pub highest_of : List ℕ → ℕ
highest_of poly = highest_below poly 256

abbrev pub jump_poly : List ℕ
jump_poly = 0x180e_c6d3_3cfd_0aba ∷ 0xd5a6_1266_f0c9_392c ∷ 0xa958_2618_e03f_c9aa ∷ 0x39ab_dc45_29b1_661c ∷ []

abbrev pub long_jump_poly : List ℕ
long_jump_poly = 0x76e1_5d3e_fefd_cbbf ∷ 0xc500_4e44_1c52_2fb3 ∷ 0x7771_0069_854e_e241 ∷ 0x3910_9bb0_2acb_e635 ∷ []

-- n jumps
abbrev pub jumps : ℕ → State → State
jumps = iterate (jumped jump_poly)

-- the one state that a generator must not have
unfoldable pub all_zero : State → Bool
all_zero s = eqb s.w0 0 && eqb s.w1 0 && eqb s.w2 0 && eqb s.w3 0
