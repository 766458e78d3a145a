-- What holds after every list of calls on the generator that `new` or `from_seed` returned: demand 3, Philox (the scope document, "Philox",
-- the paragraph after the plain machine).
use Rattle.std.specs.Prelude.{Bool, cond, List, ◌≡◌, ℕ, ◌+◌, ◌-◌, ◌*◌, ◌/◌, ◌%◌, ◌^◌, ◌<◌, eqb, length, get_or}
use Rattle.base.specs.Refused.{unless}
use Rattle.base.specs.Iterate.{iterate}
use Rattle.base.specs.Lists.{folded, Each}
use Rattle.fills.specs.Fill.{round_up, draws_for}
use Rattle.fills.specs.FillBytes.{refusal_of, bytes_draws}
use Rattle.fills.specs.Handed.{RightFill, RightBytes}
use Rattle.philox.specs.x8.Machine.{group_at, lower_at, upper_at, none8, fresh, label_of, left_of}
use Rattle.philox.specs.declared.x8.Blocks.{Blocks}
use Rattle.philox.specs.declared.x8.Label.{Label}
use Rattle.philox.specs.declared.x8.Philox4x32X8.{Philox4x32X8}
use Rattle.philox_fills.specs.Labelled.{no_label}
use Rattle.saved.specs.philox4x32.Claims.{Restored}
use Rattle.saved.specs.philox4x32.Form.{loaded}
use Rattle.history.specs.Draws.{RightDraws}
use Rattle.history.specs.Rows.{Rows}
use Rattle.history.specs.philox4x32.Calls.{Call, draw, group, seek, fill, bytes, many, skip, rng_after, Run}

-- ---- what is counted along a list
-- a is the last sought block, 0 if none; g counts the group calls and d the draws since then; `from` is the counter before the last odd
-- draw, 0 if none came since the seek
pub record Tally : Type 0 where
  pub a : ℕ
  pub g : ℕ
  pub d : ℕ
  pub from : ℕ

-- the counter: a + 8 (g + d / 2 rounded up) modulo 2 ^ 64
unfoldable pub counter_of : Tally → ℕ
counter_of t = (t.a + 8 * (t.g + round_up t.d 2)) % 2 ^ 64

-- words wait exactly when d is odd
abbrev pub waits_of : Tally → Bool
waits_of t = eqb (t.d % 2) 1

-- the draws left: two for each whole group of eight blocks before block 2 ^ 64, and one more when d is odd
abbrev pub left_at : Tally → ℕ
left_at t = 2 * ((2 ^ 64 - counter_of t) / 8) + t.d % 2

abbrev pub start : Tally
start = record { a = 0; g = 0; d = 0; from = 0 }

-- one draw more: if d was even it is an odd draw, and the counter before it is kept
unfoldable pub one_draw : Tally → Tally
one_draw t = record { a = t.a; g = t.g; d = t.d + 1; from = cond (waits_of t) t.from (counter_of t) }

abbrev pub one_group : Tally → Tally
one_group t = record { a = t.a; g = t.g + 1; d = t.d; from = t.from }

-- the tally after a call, where it was t before it: the draws of a fill, many draws at once, and those of a skip, count in d, one after
-- another
abbrev pub tally_after : Tally → Call → Tally
tally_after t (draw r) = one_draw t
tally_after t (group r) = one_group t
tally_after t (seek n u64 r) = record { a = n; g = 0; d = 0; from = 0 }
tally_after t (fill K before after r) = iterate one_draw (draws_for K (length before)) t
tally_after t (bytes k before after r) = iterate one_draw (unless (refusal_of k (length before)) (bytes_draws k (length before)) 0) t
tally_after t (many at m before after draws label rng) = iterate one_draw m t
tally_after t (skip n rng) = iterate one_draw n t

abbrev pub tally : List Call → Tally
tally calls = folded tally_after start calls

-- the draws that the calls since the last seek reported, after a call, where they were m before it: a single draw 1, an accepted fill the
-- draws that it returned, as do many draws at once, a skip of n draws n
abbrev pub reported_after : ℕ → Call → ℕ
reported_after m (draw r) = m + 1
reported_after m (group r) = m
reported_after m (seek n u64 r) = 0
reported_after m (fill K before after r) = m + r.draws
reported_after m (bytes k before after r) = m + unless r.refusal r.value.draws 0
reported_after m (many at n before after draws label rng) = m + draws
reported_after m (skip n rng) = m + n

abbrev pub reported : List Call → ℕ
reported calls = folded reported_after 0 calls

-- ---- what the calls handed out, by the key and stream of s₀
-- the words of the draw made where the tally is t: an odd draw has the lower words of the group at the counter before it; the next even draw
-- has that group's upper words, whatever group calls come between
unfoldable pub words_at : Philox4x32X8 → Tally → List ℕ
words_at s₀ t = cond (waits_of t) (upper_at s₀ t.from) (lower_at s₀ (counter_of t))

-- the label of that draw: it is the lower half of the group at the counter, or the upper half of the group of the odd draw before it
abbrev pub label_at : Tally → Label
label_at t = record { first = cond (waits_of t) t.from (counter_of t); upper = waits_of t }

-- a group call has the four words of the eight blocks from the counter on
pub record RightGroup (s₀ : Philox4x32X8) (t : Tally) (r : Blocks) : Type 0 where
  pub word0 : r.w0 ≡ (group_at s₀ (counter_of t)).w0
  pub word1 : r.w1 ≡ (group_at s₀ (counter_of t)).w1
  pub word2 : r.w2 ≡ (group_at s₀ (counter_of t)).w2
  pub word3 : r.w3 ≡ (group_at s₀ (counter_of t)).w3

-- what a call on the generator s handed out is right, where the tally before it is t; draw m of a fill, or of many draws, has m more. A
-- draw is labelled as the draw made there, and a fill as its first draw, also where it makes none; a refused fill has no label. A skip
-- hands out nothing but the generator
abbrev pub Right : Philox4x32X8 → Tally → Philox4x32X8 → Call → Type 0
Right s₀ t s (draw r) = (r.words ≡ words_at s₀ t) × (r.label ≡ label_at t)
Right s₀ t s (group r) = RightGroup s₀ t r
Right s₀ t s (seek n u64 r) = r.counter ≡ n
Right s₀ t s (fill K before after r) =
    RightFill (λ m. words_at s₀ (iterate one_draw m t)) K before after r.draws × (r.label ≡ label_at t)
Right s₀ t s (bytes k before after r) =
    RightBytes (λ m. words_at s₀ (iterate one_draw m t)) k before after s r.refusal r.value.draws r.value.rng
    × (r.value.label ≡ unless r.refusal (label_at t) no_label)
Right s₀ t s (many at m before after draws label rng) =
    RightDraws (λ i. words_at s₀ (iterate one_draw i t)) at m before after draws × (label ≡ label_at t)
Right s₀ t s (skip n rng) = Unit

abbrev pub AllRight : Philox4x32X8 → List Call → Type 0
AllRight s₀ = Each (λ calls c. Right s₀ (tally calls) (rng_after s₀ calls) c)

-- ---- the claim. A constructor handed back s₀, and the calls were made on it
pub record History (s₀ : Philox4x32X8) (calls : List Call) : Type 0 where
  pub key : (rng_after s₀ calls).key ≡ s₀.key
  pub stream : (rng_after s₀ calls).stream ≡ s₀.stream
  -- the reported draws are d
  pub draws : reported calls ≡ (tally calls).d
  -- the counter, whether words wait, which words do, and the first block of their group
  pub counter : (rng_after s₀ calls).counter ≡ counter_of (tally calls)
  pub waits : (rng_after s₀ calls).waiting ≡ waits_of (tally calls)
  pub pending : (rng_after s₀ calls).pending ≡ cond (waits_of (tally calls)) (upper_at s₀ (tally calls).from) none8
  pub first : (rng_after s₀ calls).first ≡ cond (waits_of (tally calls)) (tally calls).from 0
  -- the label of the next draw
  pub label : label_of (rng_after s₀ calls) ≡ label_at (tally calls)
  -- the draws left
  pub left : left_of (rng_after s₀ calls) ≡ left_at (tally calls)
  -- every call handed out what it should
  pub outputs : AllRight s₀ calls

abbrev pub DrawsAddUp : Type 1
DrawsAddUp = (seed stream : ℕ) (s₀ : Philox4x32X8) (calls : List Call) → s₀ ≡ fresh seed stream → Run s₀ calls → History s₀ calls

-- ---- every generator that a constructor or `load` handed back, after every list of calls, is restored by saving and loading: the words
-- that wait are those of the numbered group, whatever group calls came between
pub record Restores : Type 1 where
  -- new and from_seed, of a seed and a stream that are u64
  pub from_seed : (seed stream : ℕ) → seed < 2 ^ 64 → stream < 2 ^ 64
      → (calls : List Call) → Run (fresh seed stream) calls → Restored (rng_after (fresh seed stream) calls)
  -- load: the form is bytes
  pub from_form : (form : List ℕ) → ((i : ℕ) → get_or form i 0 < 256) → (loaded form).refusal ≡ 0
      → (calls : List Call) → Run (loaded form).value calls → Restored (rng_after (loaded form).value calls)

-- a run of draws adds to d alone
abbrev pub DrawsCount : Type 0
DrawsCount = (n : ℕ) (t : Tally) → ((iterate one_draw n t).d ≡ t.d + n) × ((iterate one_draw n t).a ≡ t.a) × ((iterate one_draw n t).g ≡ t.g)

-- ---- of the fills made where the tally is t, place by place and byte by byte: what the table says of the words from there on
abbrev pub RowsInLists : Type 0
RowsInLists = (s₀ : Philox4x32X8) (t : Tally) → Rows Philox4x32X8 (λ m. words_at s₀ (iterate one_draw m t))
