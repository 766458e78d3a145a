-- What is claimed of the table and of the fills that promise it. Each claim is proved in proofs/Theorems.antt.
-- `words m` are the words of draw m, counted from 0 at the fill's start; q stands for k / 16 and r for k mod 16.
use Rattle.std.specs.Prelude.{cond, List, ◌≡◌, ℕ, ◌+◌, ◌-◌, ◌*◌, ◌/◌, ◌%◌, ◌^◌, ◌<◌, ◌≤◌, ltb, Float, length, get_or}
use Rattle.std.specs.Float.{binary32, binary64}
use Rattle.std.specs.Float.Ieee.{to_bits}
use Rattle.base.specs.Engine.{Engine}
use Rattle.base.specs.Bytes.{flat}
use Rattle.base.specs.Table.{table}
use Rattle.floats.specs.units.Unit.{unit, one_minus_unit, open01}
use Rattle.math.specs.BoxMuller.{cos_half, sin_half}
use Rattle.fills.specs.Fill.{Kind, round_up, draws_for, element, Filled}
use Rattle.fills.specs.Kinds.{u64s, u32s, f32s, f64s, normal_f32s, normal_f64s, open01_f32s, open01_f64s, of, kinds, kind_at}
use Rattle.fills.specs.FillBytes.{bytes_of, refusal_of, bytes_written, bytes_draws, FilledBytes}

-- ---- the table, row by row: element k as the scope document says it
-- word i of draw m
abbrev pub word : (ℕ → List ℕ) → ℕ → ℕ → ℕ
word words m i = get_or (words m) i 0

-- a where r < 8, b where it is not
abbrev pub by_half : {A : Type 0} → ℕ → A → A → A
by_half k a b = cond (ltb (k % 16) 8) a b

-- 1: word k mod 8 of draw floor(k / 8)
abbrev pub u64_at : (ℕ → List ℕ) → ℕ → ℕ
u64_at words k = word words (k / 8) (k % 8)

-- 2: draw q: low half of word r if r < 8, else high half of word r - 8
abbrev pub u32_at : (ℕ → List ℕ) → ℕ → ℕ
u32_at words k = by_half k (word words (k / 16) (k % 16) % 2 ^ 32) (word words (k / 16) (k % 16 - 8) / 2 ^ 32)

-- 3: unit of kind 2; 4: unit of kind 1
abbrev pub f32_at : (ℕ → List ℕ) → ℕ → Float
f32_at words k = unit binary32 (u32_at words k)

abbrev pub f64_at : (ℕ → List ℕ) → ℕ → Float
f64_at words k = unit binary64 (u64_at words k)

-- 5: lane r mod 8, u1 = 1 - unit of the low half and u2 = unit of the high half of that word of draw q; the cosine half if r < 8, else the sine half
abbrev pub from32 : (Float → Float → Float) → (ℕ → List ℕ) → ℕ → Float
from32 half words k =
    let w = word words (k / 16) (k % 16 % 8) in
    half (one_minus_unit binary32 (w % 2 ^ 32)) (unit binary32 (w / 2 ^ 32))

abbrev pub normal_f32_at : (ℕ → List ℕ) → ℕ → Float
normal_f32_at words k = by_half k (from32 (cos_half binary32) words k) (from32 (sin_half binary32) words k)

-- 6: lane r mod 8, u1 = 1 - unit from draw 2 q, u2 = unit from draw 2 q + 1
abbrev pub from64 : (Float → Float → Float) → (ℕ → List ℕ) → ℕ → Float
from64 half words k = half (one_minus_unit binary64 (word words (2 * (k / 16)) (k % 16 % 8))) (unit binary64 (word words (2 * (k / 16) + 1) (k % 16 % 8)))

abbrev pub normal_f64_at : (ℕ → List ℕ) → ℕ → Float
normal_f64_at words k = by_half k (from64 (cos_half binary64) words k) (from64 (sin_half binary64) words k)

-- 7: unit that is never 0 of kind 2; 8: of kind 1
abbrev pub open01_f32_at : (ℕ → List ℕ) → ℕ → Float
open01_f32_at words k = open01 binary32 (u32_at words k)

abbrev pub open01_f64_at : (ℕ → List ℕ) → ℕ → Float
open01_f64_at words k = open01 binary64 (u64_at words k)

-- ---- the kind of each number has the elements of its row, where each draw has eight words
abbrev pub Eights : (ℕ → List ℕ) → Type 0
Eights words = (m : ℕ) → length (words m) ≡ 8

abbrev pub Row : {A : Type 0} → ((ℕ → List ℕ) → ℕ → A) → Kind A → Type 0
Row says K = (words : ℕ → List ℕ) → Eights words → (k : ℕ) → element K words k ≡ says words k

abbrev pub Row1 : Type 0
unfolding kind_at
Row1 = Row u64_at (kind_at 1).kind

abbrev pub Row2 : Type 0
unfolding kind_at
Row2 = Row u32_at (kind_at 2).kind

abbrev pub Row3 : Type 0
unfolding kind_at
Row3 = Row f32_at (kind_at 3).kind

abbrev pub Row4 : Type 0
unfolding kind_at
Row4 = Row f64_at (kind_at 4).kind

abbrev pub Row5 : Type 0
unfolding kind_at
Row5 = Row normal_f32_at (kind_at 5).kind

abbrev pub Row6 : Type 0
unfolding kind_at
Row6 = Row normal_f64_at (kind_at 6).kind

abbrev pub Row7 : Type 0
unfolding kind_at
Row7 = Row open01_f32_at (kind_at 7).kind

abbrev pub Row8 : Type 0
unfolding kind_at
Row8 = Row open01_f64_at (kind_at 8).kind

-- which kind has which number
pub record KindNumbers : Type 1 where
  pub kind1 : kind_at 1 ≡ of u64s
  pub kind2 : kind_at 2 ≡ of u32s
  pub kind3 : kind_at 3 ≡ of f32s
  pub kind4 : kind_at 4 ≡ of f64s
  pub kind5 : kind_at 5 ≡ of normal_f32s
  pub kind6 : kind_at 6 ≡ of normal_f64s
  pub kind7 : kind_at 7 ≡ of open01_f32s
  pub kind8 : kind_at 8 ≡ of open01_f64s

-- the draws for n places, and the widths in bytes
pub record Columns (n : ℕ) : Type 0 where
  pub draws1 : draws_for (kind_at 1).kind n ≡ round_up n 8
  pub draws2 : draws_for (kind_at 2).kind n ≡ round_up n 16
  pub draws3 : draws_for (kind_at 3).kind n ≡ round_up n 16
  pub draws4 : draws_for (kind_at 4).kind n ≡ round_up n 8
  pub draws5 : draws_for (kind_at 5).kind n ≡ round_up n 16
  pub draws6 : draws_for (kind_at 6).kind n ≡ 2 * round_up n 16
  pub draws7 : draws_for (kind_at 7).kind n ≡ round_up n 16
  pub draws8 : draws_for (kind_at 8).kind n ≡ round_up n 8
  pub width1 : (kind_at 1).kind.width ≡ 8
  pub width2 : (kind_at 2).kind.width ≡ 4
  pub width3 : (kind_at 3).kind.width ≡ 4
  pub width4 : (kind_at 4).kind.width ≡ 8
  pub width5 : (kind_at 5).kind.width ≡ 4
  pub width6 : (kind_at 6).kind.width ≡ 8
  pub width7 : (kind_at 7).kind.width ≡ 4
  pub width8 : (kind_at 8).kind.width ≡ 8

abbrev pub DrawsAndWidths : Type 0
DrawsAndWidths = (n : ℕ) → Columns n

-- the kinds have the numbers 1 to 8
abbrev pub EightKinds : Type 0
EightKinds = length kinds ≡ 8

-- ---- the refusals of a byte fill: none exactly when the kind is a row of the table, counted from 1, and the length a multiple of its width;
-- 4 comes before 5
pub record Judged (k n : ℕ) : Type 0 where
  pub accepted : refusal_of k n ≡ 0 → (1 ≤ k) × (k ≤ length kinds) × (n % (kind_at k).kind.width ≡ 0)
  pub accepts : 1 ≤ k → k ≤ length kinds → n % (kind_at k).kind.width ≡ 0 → refusal_of k n ≡ 0
  pub below : k < 1 → refusal_of k n ≡ 4
  pub above : length kinds < k → refusal_of k n ≡ 4
  pub uneven : 1 ≤ k → k ≤ length kinds → (n % (kind_at k).kind.width ≡ 0 → ⊥) → refusal_of k n ≡ 5

abbrev pub Refusals : Type 0
Refusals = (k n : ℕ) → Judged k n

-- ---- an accepted byte fill writes the bytes of the typed fill of as many elements, with the same draws and the same generator after it:
-- for every kind of the table and every engine
abbrev pub BytesOfTheFill : Type 1
BytesOfTheFill =
    (G : Type 0) (E : Engine G) (k : ℕ) (g gᵇ gᵗ : G) (before after : List ℕ) (old new : List (kind_at k).Element) (dᵇ dᵗ : ℕ)
    → FilledBytes E k g before after 0 dᵇ gᵇ → Filled E (kind_at k).kind g old new dᵗ gᵗ
    → length before ≡ length old * (kind_at k).kind.width
    → (after ≡ flat (bytes_of (kind_at k).kind) new) × (dᵇ ≡ dᵗ) × (gᵇ ≡ gᵗ)

-- ---- a fill's slice, place by place: `after` is what `writes` of a fill's promise says, and its place k holds element k of the row
abbrev pub Places : {A : Type 0} → ((ℕ → List ℕ) → ℕ → A) → Kind A → Type 0
Places {A} says K =
    (words : ℕ → List ℕ) → Eights words → (n : ℕ) (after : List A) → after ≡ table n (element K words)
    → (k : ℕ) → k < n → get_or after k K.blank ≡ says words k

pub record PlacesOfRows : Type 0 where
  pub u64 : Places u64_at u64s
  pub u32 : Places u32_at u32s
  pub f32 : Places f32_at f32s
  pub f64 : Places f64_at f64s
  pub normal_f32 : Places normal_f32_at normal_f32s
  pub normal_f64 : Places normal_f64_at normal_f64s
  pub open01_f32 : Places open01_f32_at open01_f32s
  pub open01_f64 : Places open01_f64_at open01_f64s

-- the same of a byte fill of a number: byte j of element k, the lowest first, stands at k * width + j
abbrev pub BytePlaces : {A : Type 0} → ((ℕ → List ℕ) → ℕ → A) → (A → ℕ) → ℕ → ℕ → Type 0
BytePlaces says bits number width =
    (words : ℕ → List ℕ) → Eights words → (n : ℕ) (after : List ℕ) → after ≡ bytes_written number words n
    → (k j : ℕ) → k < n / width → j < width → get_or after (k * width + j) 0 ≡ bits (says words k) / 256 ^ j % 256

pub record BytesOfRows : Type 0 where
  pub bytes1 : BytePlaces u64_at (λ x. x) 1 8
  pub bytes2 : BytePlaces u32_at (λ x. x) 2 4
  pub bytes3 : BytePlaces f32_at (to_bits binary32) 3 4
  pub bytes4 : BytePlaces f64_at (to_bits binary64) 4 8
  pub bytes5 : BytePlaces normal_f32_at (to_bits binary32) 5 4
  pub bytes6 : BytePlaces normal_f64_at (to_bits binary64) 6 8
  pub bytes7 : BytePlaces open01_f32_at (to_bits binary32) 7 4
  pub bytes8 : BytePlaces open01_f64_at (to_bits binary64) 8 8

-- ---- a fill depends on no draw at or past its count: two streams of words that agree on its draws give the same elements and
-- the same bytes
abbrev pub AgreeBelow : ℕ → (ℕ → List ℕ) → (ℕ → List ℕ) → Type 0
AgreeBelow d U W = (m : ℕ) → m < d → U m ≡ W m

abbrev pub OnlyItsDraws : Type 0
OnlyItsDraws =
    (k n : ℕ) (U W : ℕ → List ℕ)
    → (AgreeBelow (draws_for (kind_at k).kind n) U W → table n (element (kind_at k).kind U) ≡ table n (element (kind_at k).kind W))
    × (AgreeBelow (bytes_draws k n) U W → bytes_written k U n ≡ bytes_written k W n)
