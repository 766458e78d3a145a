-- What holds after every list of calls on the generator that `from_seed` or `from_seed_block` returned: demand 3, eight lanes. And that the
-- generators of all constructors, after every list, save and load.
use Rattle.std.specs.Prelude.{List, ◌≡◌, ℕ, ◌+◌, ◌*◌, ◌^◌, ◌<◌, length, get_or}
use Rattle.base.specs.Lists.{total, Each}
use Rattle.base.specs.Refused.{unless}
use Rattle.base.specs.Table.{table}
use Rattle.fills.specs.Fill.{draws_for}
use Rattle.fills.specs.FillBytes.{refusal_of, bytes_draws}
use Rattle.fills.specs.Handed.{RightFill, RightBytes}
use Rattle.saved.specs.xoshiro256pp.Claims.{Restored}
use Rattle.saved.specs.xoshiro256pp.Form.{loaded}
use Rattle.xoshiro.specs.scalar.Calls.{state_of}
use Rattle.xoshiro_steps.specs.Claims.{Words}
use Rattle.xoshiro_steps.specs.Xoshiro256pp.{State, output, steps, jumps}
use Rattle.xoshiro.specs.scalar.Seeded.{seeded}
use Rattle.xoshiro.specs.declared.scalar.Xoshiro256pp.{Xoshiro256pp}
use Rattle.xoshiro.specs.x8.Lanes.{lane_of}
use Rattle.xoshiro.specs.x8.Calls.{block_jumps, placed, no_lane, from_lanes}
use Rattle.xoshiro.specs.declared.x8.Placed.{Placed}
use Rattle.xoshiro.specs.declared.x8.Xoshiro256ppX8.{Xoshiro256ppX8}
use Rattle.history.specs.Draws.{RightDraws}
use Rattle.history.specs.Rows.{Rows}
use Rattle.history.specs.xoshiro256pp.Calls.{Call, draw, fill, bytes, move, many, skip, rng_after, Run}

-- ---- what the calls reported: an accepted fill, or many draws at once, the draws that were returned, a single draw 1, a skip of n draws
-- n, a block move the jumps that it returned
abbrev pub draws_reported : Call → ℕ
draws_reported (draw r) = 1
draws_reported (fill K before after r) = r.draws
draws_reported (bytes k before after r) = unless r.refusal r.value.draws 0
draws_reported (move n r) = 0
draws_reported (many at m before after draws rng) = draws
draws_reported (skip n rng) = n

abbrev pub jumps_reported : Call → ℕ
jumps_reported (draw r) = 0
jumps_reported (fill K before after r) = 0
jumps_reported (bytes k before after r) = 0
jumps_reported (move n r) = r.jumps
jumps_reported (many at m before after draws rng) = 0
jumps_reported (skip n rng) = 0

-- ---- D and J, whole numbers, never reduced: the table's draws for an accepted fill, m for m draws at once, n for a skip of n and 1 for a
-- single draw; 8 n modulo 2 ^ 64 for each block move, after the constructor's 8 b modulo 2 ^ 64
abbrev pub draws_counted : Call → ℕ
draws_counted (draw r) = 1
draws_counted (fill K before after r) = draws_for K (length before)
draws_counted (bytes k before after r) = unless (refusal_of k (length before)) (bytes_draws k (length before)) 0
draws_counted (move n r) = 0
draws_counted (many at m before after draws rng) = m
draws_counted (skip n rng) = n

abbrev pub jumps_counted : Call → ℕ
jumps_counted (draw r) = 0
jumps_counted (fill K before after r) = 0
jumps_counted (bytes k before after r) = 0
jumps_counted (move n r) = block_jumps n
jumps_counted (many at m before after draws rng) = 0
jumps_counted (skip n rng) = 0

abbrev pub D : List Call → ℕ
D calls = total draws_counted calls

abbrev pub J : ℕ → List Call → ℕ
J b calls = block_jumps b + total jumps_counted calls

-- ---- what the calls handed out
-- where D is d and J is j, a draw hands out, as word i, what a step returns from the seed's state s after j + i jumps and then d steps
unfoldable pub words_at : State → ℕ → ℕ → List ℕ
words_at s d j = table 8 (λ i. output (steps d (jumps (j + i) s)))

-- what a call on the generator g handed out is right, where D and J before it are d and j; draw m of a fill, or of many draws at once, has
-- m more in its D. A skip hands out nothing but the generator
abbrev pub Right : State → ℕ → ℕ → Xoshiro256ppX8 → Call → Type 0
Right s d j g (draw r) = r.words ≡ words_at s d j
Right s d j g (fill K before after r) = RightFill (λ m. words_at s (d + m) j) K before after r.draws
Right s d j g (bytes k before after r) = RightBytes (λ m. words_at s (d + m) j) k before after g r.refusal r.value.draws r.value.rng
Right s d j g (move n r) = r.jumps ≡ block_jumps n
Right s d j g (many at m before after draws rng) = RightDraws (λ i. words_at s (d + i) j) at m before after draws
Right s d j g (skip n rng) = Unit

abbrev pub AllRight : ℕ → ℕ → Xoshiro256ppX8 → List Call → Type 0
AllRight seed b g₀ = Each (λ calls c. Right (seeded seed) (D calls) (J b calls) (rng_after g₀ calls) c)

-- ---- the claim. A constructor at seed and block b handed back p, and the calls were made on its generator
pub record History (seed b : ℕ) (p : Placed) (calls : List Call) : Type 0 where
  -- the reported totals are D and J
  pub draws : total draws_reported calls ≡ D calls
  pub jumps_total : p.jumps + total jumps_reported calls ≡ J b calls
  -- lane i stands at the seed's state after J + i jumps and then D steps
  pub lanes : (i : ℕ) → i < 8 → lane_of (rng_after p.rng calls) i ≡ steps (D calls) (jumps (J b calls + i) (seeded seed))
  -- which is the seed's stream after (J + i) times 2 ^ 128, and D, steps
  pub distance : (i : ℕ) → i < 8 → lane_of (rng_after p.rng calls) i ≡ steps ((J b calls + i) * 2 ^ 128 + D calls) (seeded seed)
  -- every call handed out what it should
  pub outputs : AllRight seed b p.rng calls

abbrev pub DrawsAddUp : Type 1
DrawsAddUp = (seed b : ℕ) (p : Placed) (calls : List Call) → p ≡ placed seed b → Run p.rng calls → History seed b p calls

-- ---- every generator from an accepted constructor, after every list of calls, is restored by saving and loading
pub record Restores : Type 1 where
  -- from_seed and from_seed_block, which refuse nothing
  pub from_block : (seed b : ℕ) (calls : List Call) → Run (placed seed b).rng calls → Restored (rng_after (placed seed b).rng calls)
  -- from_lanes: the lanes are what its type says, eight of four words
  pub from_lanes : (lanes : List Xoshiro256pp) → length lanes ≡ 8 → ((i : ℕ) → i < 8 → Words (state_of (get_or lanes i no_lane)))
      → (from_lanes lanes).refusal ≡ 0 → (calls : List Call) → Run (from_lanes lanes).value calls → Restored (rng_after (from_lanes lanes).value calls)
  -- load: the form is bytes
  pub from_form : (form : List ℕ) → ((i : ℕ) → get_or form i 0 < 256) → (loaded form).refusal ≡ 0
      → (calls : List Call) → Run (loaded form).value calls → Restored (rng_after (loaded form).value calls)

-- ---- of the fills made where D is d and J is j, place by place and byte by byte: what the table says of the words from there on
abbrev pub RowsInLists : Type 0
RowsInLists = (s : State) (d j : ℕ) → Rows Xoshiro256ppX8 (λ m. words_at s (d + m) j)
