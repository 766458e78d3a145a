-- What is claimed of the saved form. Each claim is proved in proofs/philox4x32/Theorems.antt.
use Rattle.std.specs.Prelude.{◌≡◌, ℕ, ◌^◌, ◌<◌, cond, List, length, ◌≢◌, slice_index}
use Rattle.saved.specs.fields.Fields.{fields}
use Rattle.philox.specs.x8.Claims.{Numbered}
use Rattle.philox.specs.x8.Machine.{upper_at, sought}
use Rattle.philox.specs.declared.x8.Philox4x32X8.{Philox4x32X8}
use Rattle.saved.specs.philox4x32.Form.{layout, form_of, mark_in, waiting_in, number_in, of_fields, loaded}
use Rattle.saved.specs.philox4x32.Moves.{From96, To96}

-- a form has 104 bytes
abbrev pub FormLength : Type 0
FormLength = (g : Philox4x32X8) → length (form_of g) ≡ 104

-- what a generator's type says: the widths of its words, two key words, eight that may wait
pub record Words (g : Philox4x32X8) : Type 0 where
  pub two : length g.key ≡ 2
  pub key : (i : ℕ) → slice_index g.key i < 2 ^ 32
  pub stream : g.stream < 2 ^ 64
  pub counter : g.counter < 2 ^ 64
  pub eight : length g.pending ≡ 8
  pub pending : (i : ℕ) → slice_index g.pending i < 2 ^ 64
  pub first : g.first < 2 ^ 64

-- words that don't wait, and their number, are no part of a state: they are zero in `settled`
abbrev pub settled : Philox4x32X8 → Philox4x32X8
settled g = cond g.waiting g (sought g g.counter)

-- saving then loading restores each generator whose waiting words are the upper words of its numbered group
abbrev pub LoadSaved : Type 0
LoadSaved = (g : Philox4x32X8) → Words g → Numbered g → loaded (form_of g) ≡ record { refusal = 0; value = settled g }

-- saving then loading restores the generator, words that don't wait included
abbrev pub Restored : Philox4x32X8 → Type 0
Restored g = loaded (form_of g) ≡ record { refusal = 0; value = g }

-- every generator that is loaded has the words of its numbered group
abbrev pub LoadNumbered : Type 0
LoadNumbered = (s : List ℕ) → Numbered (loaded s).value

-- loading then saving gives the same bytes, for every accepted form
abbrev pub SaveLoaded : Type 0
SaveLoaded = (s : List ℕ) → ((i : ℕ) → slice_index s i < 256) → (loaded s).refusal ≡ 0 → form_of (loaded s).value ≡ s

-- the upper words of the numbered group of a form
abbrev pub upper_in : List ℕ → List ℕ
upper_in f = upper_at (of_fields f) (number_in f)

-- the refusals, by the fields of a form: 1 for another length; else none for mark 0 with no word that would wait and no number, nor for
-- mark 1 with the upper words of the numbered group; else 14 for mark 1, and 2
pub record Refused (s f : List ℕ) : Type 0 where
  pub one : (length s ≢ 104) → (loaded s).refusal ≡ 1
  pub unmarked : length s ≡ 104 → mark_in f ≡ 0 → ((i : ℕ) → i < 8 → slice_index (waiting_in f) i ≡ 0) → number_in f ≡ 0 → (loaded s).refusal ≡ 0
  pub marked : length s ≡ 104 → mark_in f ≡ 1 → ((i : ℕ) → i < 8 → slice_index (waiting_in f) i ≡ slice_index (upper_in f) i) → (loaded s).refusal ≡ 0
  pub two : length s ≡ 104 → (mark_in f ≢ 1) → (mark_in f ≢ 0) → (loaded s).refusal ≡ 2
  pub two_waiting : length s ≡ 104 → mark_in f ≡ 0 → (i : ℕ) → i < 8 → (slice_index (waiting_in f) i ≢ 0) → (loaded s).refusal ≡ 2
  pub two_number : length s ≡ 104 → mark_in f ≡ 0 → (number_in f ≢ 0) → (loaded s).refusal ≡ 2
  pub fourteen : length s ≡ 104 → mark_in f ≡ 1
      → (i : ℕ) → i < 8 → (slice_index (waiting_in f) i ≢ slice_index (upper_in f) i) → (loaded s).refusal ≡ 14

abbrev pub Refusals : Type 0
Refusals = (s : List ℕ) → Refused s (fields layout s)

-- ---- the moves
-- an accepted old form, moved and moved back, has its old bytes
abbrev pub MovedBack : Type 0
MovedBack = (old form form' old₂ old₂' : List ℕ) (r : ℕ) → From96 old form form' 0 → length old₂ ≡ 96 → To96 form' old₂ old₂' r
    → (r ≡ 0) × (old₂' ≡ old)
