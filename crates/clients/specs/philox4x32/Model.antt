-- What `simulate` promises: `words_at g t` are the words of the draw where the tally is t, under the key and on the stream of g, and
-- `label_at t` is its label.
use Rattle.std.specs.Prelude.{List, ◌≡◌, ℕ, ◌+◌, Float, length}
use Rattle.base.specs.Iterate.{iterate}
use Rattle.base.specs.Refused.{unless}
use Rattle.base.specs.Table.{table}
use Rattle.fills.specs.Fill.{element}
use Rattle.fills.specs.FillBytes.{refusal_of, bytes_written, bytes_draws}
use Rattle.fills.specs.Kinds.{normal_f64s}
use Rattle.history.specs.host.Philox.{standing}
use Rattle.history.specs.philox4x32.History.{Tally, start, one_draw, words_at, label_at}
use Rattle.philox.specs.x8.Machine.{fresh}
use Rattle.clients.specs.Refused.{number_in}
use Rattle.clients.specs.declared.philox4x32.Outcome.{Outcome}

-- the tally after a seek to block n and m draws
abbrev pub at_block : ℕ → ℕ → Tally
at_block n m = iterate one_draw m (record { a = n; g = 0; d = 0; from = 0 })

-- the draws of the bytes
abbrev pub d_bytes : ℕ → List ℕ → ℕ
d_bytes kind raw = unless (refusal_of kind (length raw)) (bytes_draws kind (length raw)) 0

-- `normals` and `raw` are the slices at the call, those with a mark at the return, r is what was returned
pub record Simulated (seed stream n kind : ℕ) (normals normals' : List Float) (raw raw' : List ℕ) (r : Outcome) : Type 0 where
  -- the normals, from the stream's first words on
  pub normal : normals' ≡ table (length normals) (element normal_f64s (λ m. words_at (fresh seed stream) (iterate one_draw m start)))
  -- the bytes, from block n on; a refused fill leaves them as they were
  pub refused : number_in r.refusal ≡ refusal_of kind (length raw)
  pub bytes : raw' ≡ unless (number_in r.refusal) (bytes_written kind (λ m. words_at (fresh seed stream) (at_block n m)) (length raw)) raw
  -- the last draw and its label, the draws since the seek, and the generator after them
  pub words : r.words ≡ words_at (fresh seed stream) (at_block n (d_bytes kind raw))
  pub label : r.label ≡ label_at (at_block n (d_bytes kind raw))
  pub draws : r.draws ≡ d_bytes kind raw + 1
  pub rng : r.rng ≡ standing (fresh seed stream) (at_block n (d_bytes kind raw + 1))
