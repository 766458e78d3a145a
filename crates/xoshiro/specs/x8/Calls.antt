-- What each call on an eight-lane generator answers, as the declared records.
use Rattle.std.specs.Prelude.{ℕ, ◌+◌, ◌*◌, ◌%◌, ◌^◌, Bool, cond, not, List, [], replicate, nat_lt, slice_index_or}
use Rattle.base.specs.Engine.{Engine}
use Rattle.base.specs.Every.{every}
use Rattle.base.specs.Iterate.{iterate}
use Rattle.base.specs.Refusal.{Answer}
use Rattle.xoshiro_steps.specs.Xoshiro256pp.{jumps, all_zero}
use Rattle.xoshiro.specs.scalar.Seeded.{seeded}
use Rattle.xoshiro.specs.scalar.Calls.{state_of, generator, accepted, refused}
use Rattle.xoshiro.specs.declared.scalar.Xoshiro256pp.{Xoshiro256pp}
use Rattle.xoshiro.specs.rows.Lanes.{outputs, stepped}
use Rattle.xoshiro.specs.x8.Lanes.{rows_in, of_rows, lane_of, of_states}
use Rattle.xoshiro.specs.declared.x8.Xoshiro256ppX8.{Xoshiro256ppX8}
use Rattle.xoshiro.specs.declared.x8.Draw.{Draw}
use Rattle.xoshiro.specs.declared.x8.Placed.{Placed}

-- what a draw hands out, the generator after it, and the draw
unfoldable pub words_of : Xoshiro256ppX8 → List ℕ
words_of g = outputs (rows_in g)

unfoldable pub next_of : Xoshiro256ppX8 → Xoshiro256ppX8
next_of g = of_rows (stepped (rows_in g))

unfoldable pub drawn : Xoshiro256ppX8 → Draw
drawn g = record { words = words_of g; rng = next_of g }

-- skip: the generator after n draws
abbrev pub skipped : ℕ → Xoshiro256ppX8 → Xoshiro256ppX8
skipped = iterate next_of

abbrev pub engine : Engine Xoshiro256ppX8
engine = record { words = words_of; next = next_of }

-- ---- from_seed_block and jump_blocks: n blocks are 8 n modulo 2 ^ 64 jumps, the call's part of J
abbrev pub block_jumps : ℕ → ℕ
block_jumps n = 8 * n % 2 ^ 64

unfoldable pub placed : ℕ → ℕ → Placed
placed seed block = record { rng = of_states (λ i. jumps (block_jumps block + i) (seeded seed)); jumps = block_jumps block }

unfoldable pub moved_blocks : ℕ → Xoshiro256ppX8 → Placed
moved_blocks n g = record { rng = of_states (λ i. jumps (block_jumps n) (lane_of g i)); jumps = block_jumps n }

-- ---- from_lanes: a lane of four zero words is refused with 3
unfoldable pub is_valid : Xoshiro256pp → Bool
is_valid g = not (all_zero (state_of g))

-- what is read past the end of a list of lanes
abbrev pub no_lane : Xoshiro256pp
no_lane = record { s = [] }

unfoldable pub of_lanes : List Xoshiro256pp → Xoshiro256ppX8
of_lanes lanes = of_states (λ i. state_of (slice_index_or lanes i no_lane))

abbrev pub blank8 : Xoshiro256ppX8
blank8 = record { s0 = replicate 8 0; s1 = replicate 8 0; s2 = replicate 8 0; s3 = replicate 8 0 }

unfoldable pub from_lanes : List Xoshiro256pp → Answer Xoshiro256ppX8
from_lanes lanes = cond (every is_valid lanes) (record { refusal = 0; value = of_lanes lanes }) (record { refusal = 3; value = blank8 })

-- ---- lane: a number of 8 or more is refused with 6
unfoldable pub lane_call : Xoshiro256ppX8 → ℕ → Answer Xoshiro256pp
lane_call g i = cond (nat_lt i 8) (accepted (generator (lane_of g i))) (refused 6)
