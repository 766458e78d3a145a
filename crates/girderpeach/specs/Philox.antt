-- The calls on the form of a Philox generator.
use Rattle.std.specs.Prelude.{cond, List, ◌≡◌, ℕ, ℤ}
use Rattle.base.specs.Refused.{unless}
use Rattle.saved.specs.fields.Fields.{size_of}
use Rattle.saved.specs.fields.Saved.{length_refusal}
use Rattle.saved.specs.philox4x32.Form.{layout, form_of, parsed, loaded}
use Rattle.saved.specs.philox4x32.Moves.{with_number, without_number, from_refusal, to_refusal}
use Rattle.philox.specs.x8.Machine.{engine, fresh, sought, label_of, left_of}
use Rattle.philox.specs.declared.x8.Philox4x32X8.{Philox4x32X8}
use Rattle.girderpeach.specs.Host.{answer_of, first_of, Called, Forms, HostFill, HostSkip}

-- in a fill, what the bytes of the form tell (1, 2) comes before what is refused of the kind (4) and of the length (5), and words that
-- aren't their group's (14) after it
abbrev pub forms : Forms Philox4x32X8
forms =
    record {
      engine = engine;
      refusal = λ s. (loaded s).refusal;
      refusal_by = λ s r. first_of (parsed s).refusal (first_of r (loaded s).refusal);
      read = λ s. (loaded s).value;
      form = form_of;
    }

-- gp_philox_fill
abbrev pub Filled : List ℕ → ℕ → List ℕ → ℤ → List ℕ → List ℕ → Type 0
Filled = HostFill forms

-- gp_philox_new: only the length can be refused
abbrev pub New : ℕ → ℕ → List ℕ → ℤ → List ℕ → Type 0
New seed stream form answer form' = Called (length_refusal (size_of layout) form) 0 (form_of (fresh seed stream)) form form' answer

-- gp_philox_seek
abbrev pub Sought : ℕ → List ℕ → ℤ → List ℕ → Type 0
Sought block form answer form' = Called (loaded form).refusal 0 (form_of (sought (loaded form).value block)) form form' answer

-- gp_philox_skip
abbrev pub Skipped : ℕ → List ℕ → ℤ → List ℕ → Type 0
Skipped = HostSkip forms

-- gp_philox_draws_left
abbrev pub draws_left : List ℕ → ℤ
draws_left form = answer_of (loaded form).refusal (left_of (loaded form).value)

-- gp_philox_label: 0 for the lower half of the next draw's group, 1 for the upper, and its first block. A refused call leaves the number as
-- it was
pub record Labelled (form : List ℕ) (first : ℕ) (answer : ℤ) (first' : ℕ) : Type 0 where
  pub answers : answer ≡ answer_of (loaded form).refusal (cond (label_of (loaded form).value).upper 1 0)
  pub writes : first' ≡ unless (loaded form).refusal (label_of (loaded form).value).first first

-- gp_philox_from_96, gp_philox_to_96: the form that is read stays
abbrev pub From96 : List ℕ → List ℕ → ℤ → List ℕ → Type 0
From96 old form answer form' = Called (from_refusal old form) 0 (with_number old) form form' answer

abbrev pub To96 : List ℕ → List ℕ → ℤ → List ℕ → Type 0
To96 form old answer old' = Called (to_refusal form old) 0 (without_number form) old old' answer
