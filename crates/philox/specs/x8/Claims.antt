-- What is claimed of Philox4x32X8: the plain machine, event by event. Each claim is proved in proofs/x8/Theorems.antt.
use Rattle.std.specs.Prelude.{◌≡◌, ℕ, ◌+◌, ◌-◌, ◌*◌, ◌/◌, ◌%◌, ◌^◌, ◌<◌, ◌≤◌, Bool, true, false, ◌↔◌, length, slice_index}
use Rattle.base.specs.Iterate.{iterate}
use Rattle.philox.specs.x8.Machine.{block_at, upper_at, fresh, sought, grouped, words_of, next_of, label_of, drawn, skipped, left_of}
use Rattle.philox.specs.declared.x8.Philox4x32X8.{Philox4x32X8}

-- g' has the key and the stream of g, this counter, words wait or not, and their group has this first block
pub record Stands (g g' : Philox4x32X8) (counter : ℕ) (waiting : Bool) (first : ℕ) : Type 0 where
  pub same_key : g'.key ≡ g.key
  pub same_stream : g'.stream ≡ g.stream
  pub counter_is : g'.counter ≡ counter
  pub waits : g'.waiting ≡ waiting
  pub first_is : g'.first ≡ first

-- a draw where words wait hands them out, and none wait
abbrev pub DrawWaiting : Type 0
DrawWaiting = (g : Philox4x32X8) → g.waiting ≡ true → length g.pending ≡ 8
    → ((drawn g).words ≡ g.pending) × Stands g (drawn g).rng g.counter false 0

-- a draw where none wait hands out word0 + 2^32 × word1 of the blocks counter to counter + 7, word2 + 2^32 × word3 of each now wait, and the counter gains 8
abbrev pub DrawFresh : Type 0
DrawFresh = (g : Philox4x32X8) → g.waiting ≡ false
    → ((i : ℕ) → i < 8 → slice_index (drawn g).words i ≡ (block_at g (g.counter + i)).w0 + 2 ^ 32 * (block_at g (g.counter + i)).w1)
    × ((i : ℕ) → i < 8 → slice_index (drawn g).rng.pending i ≡ (block_at g (g.counter + i)).w2 + 2 ^ 32 * (block_at g (g.counter + i)).w3)
    × Stands g (drawn g).rng ((g.counter + 8) % 2 ^ 64) true g.counter

-- a draw is labelled as the upper half of the kept group where words wait, as the lower half of the group at the counter where none do
abbrev pub LabelWaiting : Type 0
LabelWaiting = (g : Philox4x32X8) → g.waiting ≡ true → (drawn g).label ≡ record { first = g.first; upper = true }

abbrev pub LabelFresh : Type 0
LabelFresh = (g : Philox4x32X8) → g.waiting ≡ false → (drawn g).label ≡ record { first = g.counter; upper = false }

-- so the two draws of a group have its first block, whatever group calls come between them
abbrev pub LabelKept : Type 0
LabelKept = (g : Philox4x32X8) (m : ℕ) → g.waiting ≡ false
    → label_of (iterate (λ x. (grouped x).rng) m (drawn g).rng) ≡ record { first = (label_of g).first; upper = true }

-- a group call hands out the four words of the same eight blocks, the counter gains 8, and waiting words remain, with their number
abbrev pub GroupCall : Type 0
GroupCall = (g : Philox4x32X8)
    → ((i : ℕ) → i < 8
    → (slice_index (grouped g).w0 i ≡ (block_at g (g.counter + i)).w0)
    × (slice_index (grouped g).w1 i ≡ (block_at g (g.counter + i)).w1)
    × (slice_index (grouped g).w2 i ≡ (block_at g (g.counter + i)).w2)
    × (slice_index (grouped g).w3 i ≡ (block_at g (g.counter + i)).w3))
    × ((grouped g).rng.pending ≡ g.pending)
    × Stands g (grouped g).rng ((g.counter + 8) % 2 ^ 64) g.waiting g.first

-- after a seek the counter is n and none wait
abbrev pub Seek : Type 0
Seek = (g : Philox4x32X8) (n : ℕ) → Stands g (sought g n) n false 0

-- the words that wait are the upper words of the numbered group
abbrev pub Numbered : Philox4x32X8 → Type 0
Numbered g = g.waiting ≡ true → g.pending ≡ upper_at g g.first

-- a new generator is such, and every call on such a one hands one back: a fill's draws are those of a skip
pub record KeepsNumber : Type 0 where
  pub new : (seed stream : ℕ) → Numbered (fresh seed stream)
  pub draw : (g : Philox4x32X8) → Numbered g → Numbered (drawn g).rng
  pub blocks : (g : Philox4x32X8) → Numbered g → Numbered (grouped g).rng
  pub seek : (g : Philox4x32X8) (n : ℕ) → Numbered g → Numbered (sought g n)
  pub skip : (g : Philox4x32X8) (n : ℕ) → Numbered g → Numbered (skipped n g)

-- where none wait, two draws are eight blocks: 2 q draws from block c on lead where a seek to block c + 8 q does, and one more is a draw
-- there
abbrev pub SkipSeeks : Type 0
SkipSeeks = (g : Philox4x32X8) (c q : ℕ) → c < 2 ^ 64
    → (skipped (2 * q) (sought g c) ≡ sought g ((c + 8 * q) % 2 ^ 64))
    × (skipped (2 * q + 1) (sought g c) ≡ (drawn (sought g ((c + 8 * q) % 2 ^ 64))).rng)

-- a draw has eight words, on every record
abbrev pub EightWords : Type 0
EightWords = (g : Philox4x32X8) → length (words_of g) ≡ 8

-- ---- draws left: two for each whole group of eight blocks before block 2 ^ 64, and one more where words wait
abbrev pub LeftWaiting : Type 0
LeftWaiting = (g : Philox4x32X8) → g.waiting ≡ true → left_of g ≡ 2 * ((2 ^ 64 - g.counter) / 8) + 1

abbrev pub LeftFresh : Type 0
LeftFresh = (g : Philox4x32X8) → g.waiting ≡ false → left_of g ≡ 2 * ((2 ^ 64 - g.counter) / 8)

-- a seek drops the words that wait, and the one more with them
abbrev pub LeftSought : Type 0
LeftSought = (g : Philox4x32X8) (n : ℕ) → left_of (sought g n) ≡ 2 * ((2 ^ 64 - n) / 8)

-- a draw takes one off, and a group call two, while the counter stays below 2 ^ 64
abbrev pub LeftDrawn : Type 0
LeftDrawn = (g : Philox4x32X8) → (g.waiting ≡ false → g.counter + 8 < 2 ^ 64) → left_of (drawn g).rng + 1 ≡ left_of g

abbrev pub LeftGrouped : Type 0
LeftGrouped = (g : Philox4x32X8) → g.counter + 8 < 2 ^ 64 → left_of (grouped g).rng + 2 ≡ left_of g

-- the draw that takes the counter to 2 ^ 64 itself makes it 0, as in a new generator, and words wait
abbrev pub LeftWrapped : Type 0
LeftWrapped = (g : Philox4x32X8) → g.waiting ≡ false → g.counter + 8 ≡ 2 ^ 64 → left_of (drawn g).rng ≡ 2 ^ 62 + 1

-- so m draws take m off, as long as two or more are left after them
abbrev pub LeftAfter : Type 0
LeftAfter = (g : Philox4x32X8) (m : ℕ) → m + 2 ≤ left_of g → left_of (iterate next_of m g) + m ≡ left_of g

-- so many draws can be made: where one of them begins a group, its eight blocks stand before 2 ^ 64, and not before the counter
abbrev pub LeftWithin : Type 0
LeftWithin = (g : Philox4x32X8) (m : ℕ) → m < left_of g → (iterate next_of m g).waiting ≡ false
    → (g.counter ≤ (iterate next_of m g).counter) × ((iterate next_of m g).counter + 8 ≤ 2 ^ 64)

-- none is left exactly where none wait and the next group would pass 2 ^ 64
abbrev pub NoneLeft : Type 0
NoneLeft = (g : Philox4x32X8) → (left_of g ≡ 0) ↔ (g.waiting ≡ false) × (2 ^ 64 < g.counter + 8)

-- a new generator has 2 ^ 62 left, and none has more than 2 ^ 62 + 1
abbrev pub LeftNew : Type 0
LeftNew = (seed stream : ℕ) → left_of (fresh seed stream) ≡ 2 ^ 62

abbrev pub LeftAtMost : Type 0
LeftAtMost = (g : Philox4x32X8) → left_of g ≤ 2 ^ 62 + 1
