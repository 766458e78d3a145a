-- Lists of a host's calls on one form of a Philox generator, and what holds after every list on the form that gp_philox_new wrote: demand 3
-- for a host. A list has its latest call first, so that its tail is what came before its head.
use Rattle.std.specs.Prelude.{cond, List, ◌≡◌, ℕ, ◌+◌, ◌%◌, ◌^◌, ◌<◌, ℤ, pos, length}
use Rattle.base.specs.Iterate.{iterate}
use Rattle.base.specs.Lists as lists
use Rattle.base.specs.Lists.{folded, Each}
use Rattle.fills.specs.FillBytes.{refusal_of, bytes_draws}
use Rattle.girderpeach.specs.Philox.{Filled, New, Sought, Skipped, Labelled, draws_left}
use Rattle.history.specs.philox4x32.History.{Tally, counter_of, waits_of, left_at, start, one_draw, words_at, label_at}
use Rattle.saved.specs.philox4x32.Form.{form_of}
use Rattle.philox.specs.x8.Machine.{upper_at, none8, fresh}
use Rattle.philox.specs.declared.x8.Philox4x32X8.{Philox4x32X8}
use Rattle.history.specs.host.Answers.{if_accepted, answered, RightAnswer}

-- A call, with what it was handed besides the form and what it left: a fill (gp_philox_fill), with the output before and after it; a seek
-- (gp_philox_seek), to a u64; a skip of n draws (gp_philox_skip). `form` is the form that it left.
pub data Call : Type 0 where
  fill : (k : ℕ) (before after : List ℕ) (answer : ℤ) (form : List ℕ) → Call
  seek : (n : ℕ) → n < 2 ^ 64 → (answer : ℤ) (form : List ℕ) → Call
  skip : (n : ℕ) (answer : ℤ) (form : List ℕ) → Call

-- what the function promises of the call on the form s: its `ensures`, word for word (specs/host/Shipped.antt)
abbrev pub Step : List ℕ → Call → Type 0
Step s (fill k before after answer form) = Filled s k before answer form after
Step s (seek n u64 answer form) = Sought n s answer form
Step s (skip n answer form) = Skipped n s answer form

-- the form that the call left, and the form after a list of calls that began with s₀
abbrev pub form_in : Call → List ℕ
form_in (fill k before after answer form) = form
form_in (seek n u64 answer form) = form
form_in (skip n answer form) = form

abbrev pub form_after : List ℕ → List Call → List ℕ
form_after = lists.end_of form_in

-- the calls were made one after another, each on the form that the one before it left
abbrev pub Run : List ℕ → List Call → Type 0
Run = lists.Run Step form_in

-- ---- what is counted along a list: the last sought block, and the draws since then (a host makes no group calls)
-- the tally after a call, where it was t before it
abbrev pub tally_after : Tally → Call → Tally
tally_after t (fill k before after answer form) = iterate one_draw (if_accepted answer (bytes_draws k (length before)) 0) t
tally_after t (seek n u64 answer form) = record { a = n; g = 0; d = 0; from = 0 }
tally_after t (skip n answer form) = iterate one_draw (if_accepted answer n 0) t

abbrev pub tally : List Call → Tally
tally calls = folded tally_after start calls

-- the draws that the fills since the last seek reported, and those of the skips, after a call, where they were m before it
abbrev pub reported_after : ℕ → Call → ℕ
reported_after m (fill k before after answer form) = m + answered answer
reported_after m (seek n u64 answer form) = 0
reported_after m (skip n answer form) = m + if_accepted answer n 0

abbrev pub reported : List Call → ℕ
reported calls = folded reported_after 0 calls

-- ---- the claim
-- the generator with the key and stream of g₀, and the counter, the waiting words and their group's first block that the tally gives
abbrev pub standing : Philox4x32X8 → Tally → Philox4x32X8
standing g₀ t =
    record {
      key = g₀.key;
      stream = g₀.stream;
      counter = counter_of t;
      waiting = waits_of t;
      pending = cond (waits_of t) (upper_at g₀ t.from) none8;
      first = cond (waits_of t) t.from 0;
    }

-- a call on `form` is right, where the tally before it is t: only a kind or a length is ever refused, and never the form. Draw m of a fill
-- has m draws more. A seek and a skip are never refused
abbrev pub Right : Philox4x32X8 → Tally → List ℕ → Call → Type 0
Right g₀ t form (fill k before after answer form') = RightAnswer (refusal_of k (length before)) (λ m. words_at g₀ (iterate one_draw m t)) k before after answer form form'
Right g₀ t form (seek n u64 answer form') = answer ≡ pos 0
Right g₀ t form (skip n answer form') = answer ≡ pos 0

abbrev pub AllRight : Philox4x32X8 → List ℕ → List Call → Type 0
AllRight g₀ s₀ = Each (λ calls c. Right g₀ (tally calls) (form_after s₀ calls) c)

-- gp_philox_new wrote the form s₀ of the fresh generator g₀, and the calls were made on that form
pub record History (g₀ : Philox4x32X8) (s₀ : List ℕ) (calls : List Call) : Type 0 where
  -- the reported draws are d
  pub draws : reported calls ≡ (tally calls).d
  -- the form is that of the counter, the waiting words and their number of the tally
  pub form : form_after s₀ calls ≡ form_of (standing g₀ (tally calls))
  -- the draws left, as gp_philox_draws_left answers them
  pub left : draws_left (form_after s₀ calls) ≡ pos (left_at (tally calls))
  -- the label of the next draw, as gp_philox_label answers it: 1 for an upper half, which is where d is odd
  pub label : (first : ℕ) (answer : ℤ) (first' : ℕ) → Labelled (form_after s₀ calls) first answer first'
      → (answer ≡ pos ((tally calls).d % 2)) × (first' ≡ (label_at (tally calls)).first)
  -- every call answered and wrote what it should
  pub outputs : AllRight g₀ s₀ calls

abbrev pub HostAddsUp : Type 0
HostAddsUp = (seed stream : ℕ) → seed < 2 ^ 64 → stream < 2 ^ 64 → (before s₀ : List ℕ) (calls : List Call) → New seed stream before (pos 0) s₀ → Run s₀ calls → History (fresh seed stream) s₀ calls
