-- What is claimed of the eight lanes. Each claim is proved in proofs/x8/Theorems.antt.
use Rattle.std.specs.Prelude.{◌≡◌, ℕ, ◌+◌, ◌*◌, ◌%◌, ◌^◌, ◌<◌, List, length, get_or, slice_index, slice_index_or}
use Rattle.xoshiro_steps.specs.Xoshiro256pp.{output, step, steps, jumps}
use Rattle.xoshiro.specs.scalar.Seeded.{seeded}
use Rattle.xoshiro.specs.scalar.Calls.{accepted}
use Rattle.xoshiro.specs.declared.scalar.Xoshiro256pp.{Xoshiro256pp}
use Rattle.xoshiro.specs.x8.Lanes.{lane_of}
use Rattle.xoshiro.specs.x8.Calls.{words_of, drawn, skipped, placed, moved_blocks, from_lanes, lane_call, no_lane}
use Rattle.xoshiro.specs.declared.x8.Xoshiro256ppX8.{Xoshiro256ppX8}

-- lane i of a draw's generator is a step of lane i, and word i is that lane's output
abbrev pub LanesStep : Type 0
LanesStep = (g : Xoshiro256ppX8) (i : ℕ) → i < 8 → (lane_of (drawn g).rng i ≡ step (lane_of g i)) × (slice_index (drawn g).words i ≡ output (lane_of g i))

-- so lane i of the generator after n draws is lane i after n steps
abbrev pub LanesSkip : Type 0
LanesSkip = (n : ℕ) (g : Xoshiro256ppX8) (i : ℕ) → i < 8 → lane_of (skipped n g) i ≡ steps n (lane_of g i)

-- lane i of block b is the seed's state after (8 b modulo 2 ^ 64) + i jumps
abbrev pub LanesStart : Type 0
LanesStart = (seed b i : ℕ) → i < 8 → lane_of (placed seed b).rng i ≡ jumps (8 * b % 2 ^ 64 + i) (seeded seed)

-- a move by n blocks makes 8 n modulo 2 ^ 64 jumps in each lane
abbrev pub LanesMove : Type 0
LanesMove = (n : ℕ) (g : Xoshiro256ppX8) (i : ℕ) → i < 8 → lane_of (moved_blocks n g).rng i ≡ jumps (8 * n % 2 ^ 64) (lane_of g i)

-- each row has eight words, as the type [u64; 8] says
pub record Eights (g : Xoshiro256ppX8) : Type 0 where
  pub row0 : length g.s0 ≡ 8
  pub row1 : length g.s1 ≡ 8
  pub row2 : length g.s2 ≡ 8
  pub row3 : length g.s3 ≡ 8

-- so a move by 2 ^ 61 blocks moves nothing
abbrev pub NothingMoves : Type 0
NothingMoves = (g : Xoshiro256ppX8) → Eights g → moved_blocks (2 ^ 61) g ≡ record { rng = g; jumps = 0 }

-- accepted lanes are handed back by `lane`
abbrev pub LanesBack : Type 0
LanesBack = (lanes : List Xoshiro256pp) (i : ℕ) → i < 8 → length (get_or lanes i no_lane).s ≡ 4 → (from_lanes lanes).refusal ≡ 0
    → lane_call (from_lanes lanes).value i ≡ accepted (slice_index_or lanes i no_lane)

-- a draw has eight words, on every record
abbrev pub EightWords : Type 0
EightWords = (g : Xoshiro256ppX8) → length (words_of g) ≡ 8
