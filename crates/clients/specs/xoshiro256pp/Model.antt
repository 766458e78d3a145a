-- What `simulate` promises: `words_at s d j` are the words of the draw where D is d and J is j, from the seed's state s.
use Rattle.std.specs.Prelude.{List, ◌≡◌, ℕ, ◌+◌, ◌<◌, Float, length}
use Rattle.base.specs.Refused.{unless}
use Rattle.base.specs.Table.{table}
use Rattle.fills.specs.Fill.{draws_for, element}
use Rattle.fills.specs.FillBytes.{refusal_of, bytes_written, bytes_draws}
use Rattle.fills.specs.Kinds.{f64s}
use Rattle.history.specs.xoshiro256pp.History.{words_at}
use Rattle.xoshiro_steps.specs.Xoshiro256pp.{steps, jumps}
use Rattle.xoshiro.specs.scalar.Seeded.{seeded}
use Rattle.xoshiro.specs.x8.Calls.{block_jumps}
use Rattle.xoshiro.specs.x8.Lanes.{lane_of}
use Rattle.clients.specs.Refused.{number_in}
use Rattle.clients.specs.declared.xoshiro256pp.Outcome.{Outcome}

-- D after the units, and after the bytes; J after the move
abbrev pub d_units : List Float → ℕ
d_units units = draws_for f64s (length units)

abbrev pub d_bytes : List Float → ℕ → List ℕ → ℕ
d_bytes units kind raw = d_units units + unless (refusal_of kind (length raw)) (bytes_draws kind (length raw)) 0

abbrev pub j_moved : ℕ → ℕ → ℕ
j_moved block n = block_jumps block + block_jumps n

-- `units` and `raw` are the slices at the call, those with a mark at the return, r is what was returned
pub record Simulated (seed block n kind : ℕ) (units units' : List Float) (raw raw' : List ℕ) (r : Outcome) : Type 0 where
  -- the units, from the seed's first words of the block on
  pub uniform : units' ≡ table (length units) (element f64s (λ m. words_at (seeded seed) m (block_jumps block)))
  -- the bytes, D and J further on; a refused fill leaves them as they were
  pub refused : number_in r.refusal ≡ refusal_of kind (length raw)
  pub bytes : raw'
      ≡ unless (number_in r.refusal) (bytes_written kind (λ m. words_at (seeded seed) (d_units units + m) (j_moved block n)) (length raw)) raw
  -- the last draw, all draws, and where the lanes stand after them
  pub words : r.words ≡ words_at (seeded seed) (d_bytes units kind raw) (j_moved block n)
  pub draws : r.draws ≡ d_bytes units kind raw + 1
  pub lanes : (i : ℕ) → i < 8 → lane_of r.rng i ≡ steps (d_bytes units kind raw + 1) (jumps (j_moved block n + i) (seeded seed))
