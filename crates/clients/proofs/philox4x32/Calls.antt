-- The five calls of `simulate`, each by what its contract says: a list of calls on one generator. Assumes nothing.
use mathlib.Core.List.{List, [], ◌∷◌}
use mathlib.Core.Path.{◌≡◌, refl, sym, ap, ◌∙◌}
use Prim.Native.Nat.{ℕ, ◌+◌, ◌^◌, ◌<◌}
use lib.Ieee.{Float}
use lib.ListN.{length}
use Rattle.std.specs.declared.option.Option.{Option}
use Rattle.base.specs.Lists.{none, then}
use Rattle.base.specs.Refusal.{Answer}
use Rattle.base.specs.Refused.{unless}
use Rattle.base.specs.declared.refusal.Refusal.{Refusal}
use Rattle.base.proofs.Iterate.{iterate_more}
use Rattle.fills.specs.FillBytes.{bytes_written}
use Rattle.fills.specs.Kinds.{normal_f64s}
use Rattle.history.specs.host.Philox.{standing}
use Rattle.history.specs.philox4x32.Calls.{Call, draw, seek, fill, bytes}
use Rattle.history.specs.philox4x32.History.{one_draw, words_at, History}
use Rattle.history.proofs.philox4x32.Theorems.{draws_add_up}
use Rattle.philox.specs.x8.Machine.{drawn, fresh, sought}
use Rattle.philox.specs.declared.x8.Draw.{Draw}
use Rattle.philox.specs.declared.x8.Philox4x32X8.{Philox4x32X8}
use Rattle.philox_fills.specs.Labelled.{LabelledFill, LabelledBytes}
use Rattle.philox_fills.specs.declared.fill_words.Fill.{Fill}
use Rattle.clients.specs.Refused.{number_in}
use Rattle.clients.specs.philox4x32.Model.{at_block, d_bytes, Simulated}
use Rattle.clients.proofs.Bytes.{left_by}

module _ (seed stream n kind : ℕ) {normals normals' : List Float} {raw raw' : List ℕ} {start : Philox4x32X8} {filled : Fill}
    {found : Philox4x32X8} {written : Answer Fill} {last : Draw} (u64 : n < 2 ^ 64) (e₀ : start ≡ fresh seed stream)
    (e₁ : LabelledFill normal_f64s start normals normals' filled) (e₂ : found ≡ sought filled.rng n)
    (e₃ : LabelledBytes kind found raw raw' written)
    (e₄ : last ≡ drawn written.value.rng) where
  -- the list, its latest call first: what came before a call is the tail
  abbrev calls : List Call
  calls = draw last ∷ bytes kind raw raw' written ∷ seek n u64 found ∷ fill normal_f64s normals normals' filled ∷ []

  -- the theorem, of this list
  h : History (fresh seed stream) calls
  h = draws_add_up seed stream (fresh seed stream) calls refl (then (then (then (then none (rw e₀ at e₁)) e₂) e₃) e₄)

  -- one draw more than those of the bytes
  one_more : at_block n (d_bytes kind raw + 1) ≡ one_draw (at_block n (d_bytes kind raw))
  one_more = iterate_more one_draw (d_bytes kind raw) _

  pub simulated : {refusal : Option Refusal} → number_in refusal ≡ written.refusal → Simulated seed stream n kind normals normals' raw raw'
      (record { words = last.words; label = last.label; draws = written.value.draws + 1; refusal = refusal; rng = last.rng })
  simulated e₅ =
      let out = h.outputs in
      record {
        normal = out.1.1.1.0.0.writes;
        refused = e₅ ∙ out.1.0.0.refuses;
        bytes = left_by out.1.0.0 ∙ ap (λ (r : ℕ). unless r (bytes_written kind (λ m. words_at (fresh seed stream) (at_block n m)) (length raw)) raw) (sym e₅);
        words = out.0.0;
        label = out.0.1;
        draws = ap (λ (d : ℕ). d + 1) out.1.0.0.count;
        rng =
            (λ i.
            record {
              key = h.key i;
              stream = h.stream i;
              counter = h.counter i;
              waiting = h.waits i;
              pending = h.pending i;
              first = h.first i;
            })
            ∙ ap (standing (fresh seed stream)) (sym one_more);
      }
