-- What is claimed of the saved form. Each claim is proved in proofs/xoshiro256pp/Theorems.antt.
use Rattle.std.specs.Prelude.{◌≡◌, ℕ, ◌<◌, true, false, List, length, ◌≢◌, slice_index}
use Rattle.saved.specs.fields.Fields.{fields}
use Rattle.xoshiro.specs.scalar.Calls.{state_of}
use Rattle.xoshiro_steps.specs.Claims as scalar
use Rattle.xoshiro_steps.specs.Xoshiro256pp.{all_zero}
use Rattle.xoshiro.specs.x8.Claims.{Eights}
use Rattle.xoshiro.specs.x8.Lanes.{lane_of}
use Rattle.xoshiro.specs.declared.x8.Xoshiro256ppX8.{Xoshiro256ppX8}
use Rattle.saved.specs.xoshiro256pp.Form.{layout, form_of, lane_in, loaded}

-- a form has 256 bytes
abbrev pub FormLength : Type 0
FormLength = (g : Xoshiro256ppX8) → length (form_of g) ≡ 256

-- what a generator's type says: eight lanes of four words below 2 ^ 64
pub record Words (g : Xoshiro256ppX8) : Type 0 where
  pub eights : Eights g
  pub lanes : (i : ℕ) → i < 8 → scalar.Words (lane_of g i)

abbrev pub NoZeroLane : Xoshiro256ppX8 → Type 0
NoZeroLane g = (i : ℕ) → i < 8 → all_zero (lane_of g i) ≡ false

-- saving then loading restores the generator
abbrev pub Restored : Xoshiro256ppX8 → Type 0
Restored g = loaded (form_of g) ≡ record { refusal = 0; value = g }

-- as it does one with no zero lane
abbrev pub LoadSaved : Type 0
LoadSaved = (g : Xoshiro256ppX8) → Words g → NoZeroLane g → Restored g

-- loading then saving gives the same bytes, for every accepted form
abbrev pub SaveLoaded : Type 0
SaveLoaded = (s : List ℕ) → ((i : ℕ) → slice_index s i < 256) → (loaded s).refusal ≡ 0 → form_of (loaded s).value ≡ s

-- the refusals: 1 for another length; else 3 for a lane of four zero words; else none
pub record Refused (s : List ℕ) : Type 0 where
  pub one : (length s ≢ 256) → (loaded s).refusal ≡ 1
  pub three : length s ≡ 256 → (i : ℕ) → i < 8 → all_zero (state_of (lane_in (fields layout s) i)) ≡ true → (loaded s).refusal ≡ 3
  pub accepted : length s ≡ 256 → ((i : ℕ) → i < 8 → all_zero (state_of (lane_in (fields layout s) i)) ≡ false) → (loaded s).refusal ≡ 0

abbrev pub Refusals : Type 0
Refusals = (s : List ℕ) → Refused s
