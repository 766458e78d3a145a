-- Where the words of a draw stand in what an engine makes of one seed.
use Rattle.std.specs.Prelude.{ℕ, ◌+◌, ◌*◌, ◌/◌, ◌%◌, ◌^◌, cond, ◌==◌}
use Rattle.base.specs.Quad.{Quad}
use Rattle.philox.specs.block.Philox.{block}
use Rattle.xoshiro_steps.specs.Xoshiro256pp.{output, steps, jumps}
use Rattle.xoshiro.specs.scalar.Seeded.{seeded}

-- a word of xoshiro256++ stands so many jumps after the seed's state, and then so many steps; one of Philox in a block of a stream of the
-- key, in its lower two words or, where `half` is not 0, in its upper two
pub data Place : Type 0 where
  stepped : (jumped steps : ℕ) → Place
  encrypted : (stream number half : ℕ) → Place

-- the word at a place: what the step there returns; or two words of the block
abbrev pub lower : Quad → ℕ
lower q = q.w0 + 2 ^ 32 * q.w1

abbrev pub upper : Quad → ℕ
upper q = q.w2 + 2 ^ 32 * q.w3

unfoldable pub word_at : ℕ → Place → ℕ
word_at seed (stepped j n) = output (steps n (jumps j (seeded seed)))
word_at seed (encrypted s n half) = let q = block (seed % 2 ^ 32) (seed / 2 ^ 32) s n in cond (half == 0) (lower q) (upper q)

-- the place of word j of draw i of a block, or of a stream
unfoldable pub place_of : (engine block i j : ℕ) → Place
place_of engine block i j = cond (engine == 1) (stepped (8 * block % 2 ^ 64 + j) i) (encrypted block ((8 * (i / 2) + j) % 2 ^ 64) (i % 2))
