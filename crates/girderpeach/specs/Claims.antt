-- What the calls of the library answer, and exactly when: the refusals both ways, the lowest number first (the scope document, "What the
-- calls refuse"). Each claim is proved in proofs/Theorems.antt.
use Rattle.std.specs.Prelude.{true, List, [], ◌∷◌, ◌↔◌, ◌≡◌, ℕ, ◌+◌, ◌-◌, ◌*◌, ◌/◌, ◌%◌, ◌^◌, ◌<◌, ◌≤◌, ℤ, pos, neg_ℤ, length, get_or}
use Rattle.fills.specs.FillBytes.{bytes_draws}
use Rattle.fills.specs.Kinds.{kinds, kind_at}
use Rattle.saved.specs.fields.Fields.{fields}
use Rattle.saved.specs.philox4x32.Form as philox-form
use Rattle.saved.specs.philox4x32.Claims.{upper_in}
use Rattle.saved.specs.philox4x32.Form.{counter_in, mark_in, waiting_in, number_in}
use Rattle.saved.specs.philox4x32.Moves.{with_number}
use Rattle.saved.specs.xoshiro256pp.Form as xoshiro-form
use Rattle.saved.specs.xoshiro256pp.Form.{lane_in}
use Rattle.xoshiro.specs.scalar.Calls.{state_of}
use Rattle.xoshiro_steps.specs.Xoshiro256pp.{all_zero}
use Rattle.girderpeach.specs.Philox as philox
use Rattle.girderpeach.specs.Xoshiro as xoshiro

-- a refusal: its number, and when it applies
pub data Refusal : Type 1 where
  refusal : (number : ℕ) (applies : Type 0) → Refusal

-- minus n
abbrev pub minus : ℕ → ℤ
minus n = neg_ℤ (pos n)

-- The answer is minus the number of the first refusal that applies, and exactly then; and it is the value, 0 or more, where none does.
abbrev pub Answers : ℤ → ℕ → List Refusal → Type 0
Answers answer value [] = answer ≡ pos value
Answers answer value (refusal n C ∷ rest) = ((answer ≡ minus n) ↔ C) × ((C → ⊥) → Answers answer value rest)

-- ---- what is refused
-- 1: a form has another length than n
abbrev pub wrong_length : ℕ → List ℕ → Refusal
wrong_length n form = refusal 1 (length form ≡ n → ⊥)

-- 3: some lane of a form has four zero words
abbrev pub zero_lane : List ℕ → Refusal
zero_lane form = refusal 3 ((i : ℕ) × (i < 8) × (all_zero (state_of (lane_in (fields xoshiro-form.layout form) i)) ≡ true))

-- 2: the mark of a form isn't 1, and if it is 0, some word after it isn't zero: the eight that would wait, and their number
abbrev pub wrong_mark : List ℕ → Refusal
wrong_mark form =
    let f = fields philox-form.layout form in
    refusal 2 ((mark_in f ≡ 1 → ⊥) × (mark_in f ≡ 0 → (i : ℕ) × (i < 9) × (get_or f (5 + i) 0 ≡ 0 → ⊥)))

-- 14: words wait, and some isn't the upper word of the numbered group
abbrev pub wrong_group : List ℕ → Refusal
wrong_group form =
    let f = fields philox-form.layout form in
    refusal 14 ((mark_in f ≡ 1) × ((i : ℕ) × (i < 8) × (get_or (waiting_in f) i 0 ≡ get_or (upper_in f) i 0 → ⊥)))

-- 1, in a move: one of two forms has another length than its own
abbrev pub wrong_lengths : ℕ → List ℕ → ℕ → List ℕ → Refusal
wrong_lengths m s n t = refusal 1 ((length s ≡ m) × (length t ≡ n) → ⊥)

-- 4: a kind is no row of the table, counted from 1; 5: the output's length isn't a multiple of the kind's width
abbrev pub no_kind : ℕ → Refusal
no_kind k = refusal 4 ((1 ≤ k) × (k ≤ length kinds) → ⊥)

abbrev pub no_multiple : ℕ → List ℕ → Refusal
no_multiple k out = refusal 5 (length out % (kind_at k).kind.width ≡ 0 → ⊥)

-- ---- the draws left that an accepted form tells: two for each whole group of eight blocks before block 2 ^ 64, and one more where words
-- wait, which is where the mark is 1 and not 0
abbrev pub left_in : List ℕ → ℕ
left_in form =
    let f = fields philox-form.layout form in
    2 * ((2 ^ 64 - counter_in f) / 8) + mark_in f

-- ---- the claims, one for each engine. A fill answers its draws, the draws left and the half of a label are answered, and other calls
-- answer 0.
pub record XoshiroRefusals : Type 0 where
  pub new : (seed block : ℕ) (form : List ℕ) (jumps : ℕ) (answer : ℤ) (form' : List ℕ) (jumps' : ℕ)
      → xoshiro.New seed block form jumps answer form' jumps' → Answers answer 0 (wrong_length 256 form ∷ [])
  pub fill : (form : List ℕ) (k : ℕ) (out : List ℕ) (answer : ℤ) (form' out' : List ℕ) → xoshiro.Filled form k out answer form' out'
      → Answers answer (bytes_draws k (length out)) (wrong_length 256 form ∷ zero_lane form ∷ no_kind k ∷ no_multiple k out ∷ [])
  pub jump_blocks : (n : ℕ) (form : List ℕ) (jumps : ℕ) (answer : ℤ) (form' : List ℕ) (jumps' : ℕ)
      → xoshiro.JumpedBlocks n form jumps answer form' jumps' → Answers answer 0 (wrong_length 256 form ∷ zero_lane form ∷ [])
  pub skip : (n : ℕ) (form : List ℕ) (answer : ℤ) (form' : List ℕ) → xoshiro.Skipped n form answer form'
      → Answers answer 0 (wrong_length 256 form ∷ zero_lane form ∷ [])

pub record PhiloxRefusals : Type 0 where
  pub new : (seed stream : ℕ) (form : List ℕ) (answer : ℤ) (form' : List ℕ) → philox.New seed stream form answer form'
      → Answers answer 0 (wrong_length 104 form ∷ [])
  pub fill : (form : List ℕ) (k : ℕ) (out : List ℕ) (answer : ℤ) (form' out' : List ℕ) → philox.Filled form k out answer form' out'
      → Answers answer (bytes_draws k (length out))
      (wrong_length 104 form ∷ wrong_mark form ∷ no_kind k ∷ no_multiple k out ∷ wrong_group form ∷ [])
  pub seek : (n : ℕ) (form : List ℕ) (answer : ℤ) (form' : List ℕ) → philox.Sought n form answer form'
      → Answers answer 0 (wrong_length 104 form ∷ wrong_mark form ∷ wrong_group form ∷ [])
  pub skip : (n : ℕ) (form : List ℕ) (answer : ℤ) (form' : List ℕ) → philox.Skipped n form answer form'
      → Answers answer 0 (wrong_length 104 form ∷ wrong_mark form ∷ wrong_group form ∷ [])
  pub draws_left : (form : List ℕ) → Answers (philox.draws_left form) (left_in form)
      (wrong_length 104 form ∷ wrong_mark form ∷ wrong_group form ∷ [])
  pub label : (form : List ℕ) (first : ℕ) (answer : ℤ) (first' : ℕ) → philox.Labelled form first answer first'
      → Answers answer (mark_in (fields philox-form.layout form)) (wrong_length 104 form ∷ wrong_mark form ∷ wrong_group form ∷ [])
  pub from_96 : (old form : List ℕ) (answer : ℤ) (form' : List ℕ) → philox.From96 old form answer form'
      → Answers answer 0 (wrong_lengths 96 old 104 form ∷ wrong_mark (with_number old) ∷ wrong_group (with_number old) ∷ [])
  pub to_96 : (form old : List ℕ) (answer : ℤ) (old' : List ℕ) → philox.To96 form old answer old'
      → Answers answer 0 (wrong_lengths 104 form 96 old ∷ wrong_mark form ∷ wrong_group form ∷ [])

-- the first block that an accepted form's label has: the number where words wait, the counter where none do
pub record LabelTells (form : List ℕ) (answer : ℤ) (first' : ℕ) : Type 0 where
  pub upper : answer ≡ pos 1 → first' ≡ number_in (fields philox-form.layout form)
  pub lower : answer ≡ pos 0 → first' ≡ counter_in (fields philox-form.layout form)

abbrev pub LabelFirst : Type 0
LabelFirst = (form : List ℕ) (first : ℕ) (answer : ℤ) (first' : ℕ) → philox.Labelled form first answer first'
    → LabelTells form answer first'

-- an old form that was moved, and is moved back, has its old bytes
abbrev pub MovedBack : Type 0
MovedBack = (old form form' old₂ : List ℕ) (answer : ℤ) (old₂' : List ℕ) → philox.From96 old form (pos 0) form' → length old₂ ≡ 96
    → philox.To96 form' old₂ answer old₂' → (answer ≡ pos 0) × (old₂' ≡ old)

-- a Philox form of bytes that is not refused is replaced, by every call, with one that is not refused; and one that was moved is such a one
pub record StaysAccepted : Type 0 where
  pub fill : (form : List ℕ) → ((i : ℕ) → get_or form i 0 < 256) → (philox-form.loaded form).refusal ≡ 0
      → (k : ℕ) (out : List ℕ) (answer : ℤ) (form' out' : List ℕ) → philox.Filled form k out answer form' out'
      → (philox-form.loaded form').refusal ≡ 0
  pub seek : (form : List ℕ) → ((i : ℕ) → get_or form i 0 < 256) → (philox-form.loaded form).refusal ≡ 0
      → (n : ℕ) → n < 2 ^ 64 → (answer : ℤ) (form' : List ℕ) → philox.Sought n form answer form' → (philox-form.loaded form').refusal ≡ 0
  pub skip : (form : List ℕ) → ((i : ℕ) → get_or form i 0 < 256) → (philox-form.loaded form).refusal ≡ 0
      → (n : ℕ) (answer : ℤ) (form' : List ℕ) → philox.Skipped n form answer form' → (philox-form.loaded form').refusal ≡ 0
  pub from_96 : (old form form' : List ℕ) → philox.From96 old form (pos 0) form' → (philox-form.loaded form').refusal ≡ 0

-- after an accepted seek to n, on a form of bytes, none wait and the one more is gone
abbrev pub SoughtLeft : Type 0
SoughtLeft = (n : ℕ) → n < 2 ^ 64 → (form : List ℕ) → ((i : ℕ) → get_or form i 0 < 256) → (form' : List ℕ)
    → philox.Sought n form (pos 0) form' → philox.draws_left form' ≡ pos (2 * ((2 ^ 64 - n) / 8))

-- no more draws are ever left than 2 ^ 62 + 1
abbrev pub MostLeft : Type 0
MostLeft = (form : List ℕ) (n : ℕ) → philox.draws_left form ≡ pos n → n ≤ 2 ^ 62 + 1
