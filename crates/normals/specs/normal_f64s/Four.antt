-- How four groups are made at a time, no part of what the calls promise.
use Rattle.std.specs.Prelude.{List, ℕ, ◌+◌, ◌*◌, ◌/◌, ◌%◌, get_or, Float}

-- f of 32 words of a buffer, eight of every sixteen from word n on
abbrev pub rows : (ℕ → Float) → List ℕ → ℕ → ℕ → Float
rows f b n k = f (get_or b (n + 16 * (k / 8) + k % 8) 0)
