-- The plain machine over the generator's record: a draw, a group of blocks, a seek.
use Rattle.std.specs.Prelude.{ℕ, ◌+◌, ◌-◌, ◌*◌, ◌/◌, ◌%◌, ◌^◌, true, false, cond, List, [], ◌∷◌, replicate, slice_index}
use Rattle.base.specs.Engine.{Engine}
use Rattle.base.specs.Iterate.{iterate}
use Rattle.base.specs.Table.{table}
use Rattle.base.specs.Quad.{Quad}
use Rattle.philox.specs.block.Philox.{block, group_of}
use Rattle.philox.specs.declared.block.Group.{Group}
use Rattle.philox.specs.declared.x8.Philox4x32X8.{Philox4x32X8}
use Rattle.philox.specs.declared.x8.Label.{Label}
use Rattle.philox.specs.declared.x8.Draw.{Draw}
use Rattle.philox.specs.declared.x8.Blocks.{Blocks}

-- eight words from their halves
unfoldable pub join_of : List ℕ → List ℕ → List ℕ
join_of lo hi = table 8 (λ i. slice_index lo i + 2 ^ 32 * slice_index hi i)

-- block n, modulo 2 ^ 64, of a generator's key and stream
abbrev pub block_at : Philox4x32X8 → ℕ → Quad
block_at g n = block (slice_index g.key 0) (slice_index g.key 1) g.stream (n % 2 ^ 64)

-- the eight blocks from block n on
abbrev pub group_at : Philox4x32X8 → ℕ → Group
group_at g n = group_of (slice_index g.key 0) (slice_index g.key 1) g.stream n

-- the lower and upper words of the eight blocks from block n on
unfoldable pub lower_at : Philox4x32X8 → ℕ → List ℕ
lower_at g n = table 8 (λ i. (block_at g (n + i)).w0 + 2 ^ 32 * (block_at g (n + i)).w1)

unfoldable pub upper_at : Philox4x32X8 → ℕ → List ℕ
upper_at g n = table 8 (λ i. (block_at g (n + i)).w2 + 2 ^ 32 * (block_at g (n + i)).w3)

-- ---- the states that the calls make
-- no words wait
abbrev pub none8 : List ℕ
none8 = replicate 8 0

-- new: stream `stream` of key `seed`, low half first, at block 0
unfoldable pub fresh : ℕ → ℕ → Philox4x32X8
fresh seed stream =
    record { key = seed % 2 ^ 32 ∷ seed / 2 ^ 32 ∷ []; stream = stream; counter = 0; waiting = false; pending = none8; first = 0 }

-- at block n, and none wait
unfoldable pub sought : Philox4x32X8 → ℕ → Philox4x32X8
sought g n = record { key = g.key; stream = g.stream; counter = n; waiting = false; pending = none8; first = 0 }

-- at block n, and the upper words of the eight blocks from block m on wait, with that number
unfoldable pub holding : Philox4x32X8 → ℕ → ℕ → Philox4x32X8
holding g n m = record { key = g.key; stream = g.stream; counter = n; waiting = true; pending = upper_at g m; first = m }

-- the counter after eight blocks
abbrev pub past : ℕ → ℕ
past n = (n + 8) % 2 ^ 64

-- ---- a draw: what it hands out, and the generator after it
-- the words that wait are eight, whatever the list's length: a generator's type says that it has eight
unfoldable pub words_of : Philox4x32X8 → List ℕ
words_of g = cond g.waiting (table 8 (λ i. slice_index g.pending i)) (lower_at g g.counter)

unfoldable pub next_of : Philox4x32X8 → Philox4x32X8
next_of g = cond g.waiting (sought g g.counter) (holding g (past g.counter) g.counter)

-- its label: the first block of its group, and whether it is the upper half
unfoldable pub label_of : Philox4x32X8 → Label
label_of g = record { first = cond g.waiting g.first g.counter; upper = g.waiting }

unfoldable pub drawn : Philox4x32X8 → Draw
drawn g = record { words = words_of g; label = label_of g; rng = next_of g }

-- skip: the generator after n draws
abbrev pub skipped : ℕ → Philox4x32X8 → Philox4x32X8
skipped = iterate next_of

abbrev pub engine : Engine Philox4x32X8
engine = record { words = words_of; next = next_of }

-- ---- blocks: the four words of the eight blocks at the counter; what waits stays, and the number of its group
unfoldable pub grouped : Philox4x32X8 → Blocks
grouped g =
    record {
      w0 = (group_at g g.counter).w0;
      w1 = (group_at g g.counter).w1;
      w2 = (group_at g g.counter).w2;
      w3 = (group_at g g.counter).w3;
      rng =
          record {
            key = g.key;
            stream = g.stream;
            counter = past
                g.counter;
            waiting = g.waiting;
            pending = g.pending;
            first = g.first;
          };
    }

-- ---- draws left: two for each whole group of eight blocks before block 2 ^ 64, and one more where words wait
unfoldable pub left_of : Philox4x32X8 → ℕ
left_of g = 2 * ((2 ^ 64 - g.counter) / 8) + cond g.waiting 1 0
