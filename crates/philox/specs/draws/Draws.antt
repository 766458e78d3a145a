-- Many draws at once: how many, and the generators on the way.
use Rattle.std.specs.Prelude.{ℕ, ◌+◌, ◌*◌, ◌/◌, ◌^◌, ◌<◌, false, cond, List}
use Rattle.base.specs.Quad.{Quad}
use Rattle.philox.specs.x8.Machine.{none8}
use Rattle.philox.specs.declared.x8.Philox4x32X8.{Philox4x32X8}

-- four words of 32 bits
pub record Small (q : Quad) : Type 0 where
  pub s0 : q.w0 < 2 ^ 32
  pub s1 : q.w1 < 2 ^ 32
  pub s2 : q.w2 < 2 ^ 32
  pub s3 : q.w3 < 2 ^ 32

-- the lower and the upper word of a block
abbrev pub lower_of : Quad → ℕ
lower_of q = q.w0 + 2 ^ 32 * q.w1

abbrev pub upper_of : Quad → ℕ
upper_of q = q.w2 + 2 ^ 32 * q.w3

-- the generator of a key and a stream at block n, and none wait
abbrev pub at_block : List ℕ → ℕ → ℕ → Philox4x32X8
at_block key stream n = record { key = key; stream = stream; counter = n; waiting = false; pending = none8; first = 0 }

-- the draws of one call where n places are left: the words that wait; or two for each group of eight blocks that has room
unfoldable pub draws_at_once : Philox4x32X8 → ℕ → ℕ
draws_at_once g n = cond g.waiting 1 (2 * (n / 16))
