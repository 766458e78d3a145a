-- What is claimed of the texts. Each claim is proved in proofs/hexfloat/Theorems.antt.
use Rattle.std.specs.Prelude.{◌≡◌, ℕ, ◌^◌, ◌<◌, ◌≤◌, length, from_bits}
use Rattle.std.specs.Float.{binary32, binary64}
use Rattle.text.specs.hexfloat.Text.{hex_text, widened}
use Rattle.text.specs.hexfloat.Value.{value_of}

-- the text of a binary64 pattern denotes exactly the value of the pattern
abbrev pub Denotes : Type 0
Denotes = (b : ℕ) → b < 2 ^ 64 → value_of (hex_text b) ≡ from_bits binary64 b

-- and so does that of a binary32 pattern
abbrev pub DenotesSingle : Type 0
DenotesSingle = (b : ℕ) → b < 2 ^ 32 → value_of (hex_text (widened b)) ≡ from_bits binary32 b

-- a text has 24 bytes at most
abbrev pub AtMost24 : Type 0
AtMost24 = (b : ℕ) → length (hex_text b) ≤ 24
