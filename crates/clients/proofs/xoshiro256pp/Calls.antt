-- The five calls of `simulate`, each by what its contract says: a list of calls on one generator. Assumes nothing.
use mathlib.Core.List.{List, [], ◌∷◌}
use mathlib.Core.Path.{◌≡◌, sym, ap, ap₂, ◌∙◌, fun_ext}
use Prim.Native.Nat.{ℕ, ◌+◌}
use native.Mathlib.Nat.{zero-add, add-zero}
use native.Mathlib.Omega.{arith}
use lib.Ieee.{Float}
use lib.ListN.{length}
use Rattle.std.specs.declared.option.Option.{Option}
use Rattle.base.specs.Lists.{none, then}
use Rattle.base.specs.Refusal.{Answer}
use Rattle.base.specs.declared.refusal.Refusal.{Refusal}
use Rattle.base.specs.Refused.{unless}
use Rattle.base.specs.Table.{table}
use Rattle.fills.specs.Fill.{Filled, element}
use Rattle.fills.specs.FillBytes.{FilledBytes, bytes_written}
use Rattle.fills.specs.Kinds.{f64s}
use Rattle.history.specs.xoshiro256pp.Calls.{Call, draw, fill, bytes, move}
use Rattle.history.specs.xoshiro256pp.History.{D, J, words_at, History}
use Rattle.history.proofs.xoshiro256pp.Theorems.{draws_add_up}
use Rattle.xoshiro_steps.specs.Xoshiro256pp.{steps, jumps}
use Rattle.xoshiro.specs.scalar.Seeded.{seeded}
use Rattle.xoshiro.specs.x8.Calls.{engine, drawn, placed, moved_blocks, block_jumps}
use Rattle.xoshiro.specs.declared.x8.Draw.{Draw}
use Rattle.xoshiro.specs.declared.x8.Placed.{Placed}
use Rattle.xoshiro_fills.specs.declared.fill_words.Fill.{Fill}
use Rattle.clients.specs.Refused.{number_in}
use Rattle.clients.specs.xoshiro256pp.Model.{d_units, d_bytes, j_moved, Simulated}
use Rattle.clients.proofs.Bytes.{left_by}

module _ (seed block n kind : ℕ) {units units' : List Float} {raw raw' : List ℕ} {start : Placed} {filled : Fill} {moved : Placed}
    {written : Answer Fill} {last : Draw} (e₀ : start ≡ placed seed block)
    (e₁ : Filled engine f64s start.rng units units' filled.draws filled.rng) (e₂ : moved ≡ moved_blocks n filled.rng)
    (e₃ : FilledBytes engine kind moved.rng raw raw' written.refusal written.value.draws written.value.rng)
    (e₄ : last ≡ drawn written.value.rng) where
  -- the list, its latest call first: what came before a call is the tail
  abbrev moves : List Call
  moves = move n moved ∷ fill f64s units units' filled ∷ []

  abbrev fills : List Call
  fills = bytes kind raw raw' written ∷ moves

  abbrev calls : List Call
  calls = draw last ∷ fills

  -- the theorem, of this list
  h : History seed block start calls
  h = draws_add_up seed block start calls e₀ (then (then (then (then none e₁) e₂) e₃) e₄)

  -- D and J where the byte fill and the draw are made, and after them
  d_moves : D moves ≡ d_units units
  d_moves = omega arith

  d_fills : D fills ≡ d_bytes units kind raw
  d_fills = omega arith

  d-calls : D calls ≡ d_bytes units kind raw + 1
  d-calls = omega arith

  j_moves : J block moves ≡ j_moved block n
  j_moves = omega arith

  j_fills : J block fills ≡ j_moved block n
  j_fills = omega arith

  j_calls : J block calls ≡ j_moved block n
  j_calls = omega arith

  pub simulated : {refusal : Option Refusal} → number_in refusal ≡ written.refusal → Simulated seed block n kind units units' raw raw'
      (record { words = last.words; draws = filled.draws + written.value.draws + 1; refusal = refusal; rng = last.rng })
  simulated e₅ =
      let out = h.outputs in
      let words-at : ℕ → ℕ → List ℕ = words_at (seeded seed) in
      record {
        uniform =
            out.1.1.1.0.writes
            ∙ ap (λ (W : ℕ → List ℕ). table (length units) (element f64s W))
            (fun_ext (λ m. ap₂ words-at (zero-add m) (add-zero (block_jumps block))));
        refused = e₅ ∙ out.1.0.refuses;
        bytes =
            left_by out.1.0
            ∙ ap₂ (λ (r : ℕ) (W : ℕ → List ℕ). unless r (bytes_written kind W (length raw)) raw) (sym e₅)
            (fun_ext (λ m. ap₂ words-at (ap (λ (d : ℕ). d + m) d_moves) j_moves));
        words = out.0 ∙ ap₂ words-at d_fills j_fills;
        draws = omega (arith, out.1.1.1.0.count, out.1.0.count);
        lanes = λ i l. h.lanes i l ∙ ap₂ (λ (d j : ℕ). steps d (jumps (j + i) (seeded seed))) d-calls j_calls;
      }
