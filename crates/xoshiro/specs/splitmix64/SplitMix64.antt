-- SplitMix64, from Vigna's reference code splitmix64.c (public domain, 2015).
use Rattle.std.specs.Prelude.{ℕ, ◌+◌, ◌*◌, ◌%◌, ◌^◌}
use Rattle.words.specs.Words.{xor_shifted}
use Rattle.xoshiro.specs.declared.splitmix64.SplitMix64.{SplitMix64}
use Rattle.xoshiro.specs.declared.splitmix64.Draw.{Draw}

-- the state after a draw
unfoldable pub advanced : ℕ → ℕ
advanced s = (s + 0x9E37_79B9_7F4A_7C15) % 2 ^ 64

-- a word xored with itself shifted right by k, times m
unfoldable pub mix_step : ℕ → ℕ → ℕ → ℕ
mix_step k m z = xor_shifted k z * m % 2 ^ 64

-- the word that a draw gives, from the state after it
unfoldable pub mixed : ℕ → ℕ
mixed z = xor_shifted 31 (mix_step 27 0x94D0_49BB_1331_11EB (mix_step 30 0xBF58_476D_1CE4_E5B9 z))

-- ---- the calls: new and next_u64
abbrev pub started : ℕ → SplitMix64
started seed = record { state = seed }

unfoldable pub drawn : SplitMix64 → Draw
drawn g = record { word = mixed (advanced g.state); rng = started (advanced g.state) }
