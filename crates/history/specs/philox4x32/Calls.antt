-- Lists of calls on one Philox generator (the scope document, "Lists of calls"). A list has its latest call first, so that its tail is what
-- came before its head.
use Rattle.std.specs.Prelude.{List, ◌≡◌, ℕ, ◌^◌, ◌<◌}
use Rattle.base.specs.Engine.{DrawnAt}
use Rattle.base.specs.Lists as lists
use Rattle.base.specs.Refusal.{Answer}
use Rattle.fills.specs.Fill.{Kind}
use Rattle.philox.specs.x8.Machine.{drawn, grouped, sought, label_of, skipped, engine}
use Rattle.philox.specs.declared.x8.Blocks.{Blocks}
use Rattle.philox.specs.declared.x8.Draw.{Draw}
use Rattle.philox.specs.declared.x8.Label.{Label}
use Rattle.philox.specs.declared.x8.Philox4x32X8.{Philox4x32X8}
use Rattle.philox_fills.specs.Labelled.{LabelledFill, LabelledBytes}
use Rattle.philox_fills.specs.declared.fill_words.Fill.{Fill}

-- A call, with what it was handed besides the generator and what it handed back: a single draw (next_u64x8, draw), a group call (blocks),
-- a seek (to a u64), a typed fill, a byte fill with its kind's number, m draws whose words go into a slice from place `at` on (draw_many,
-- fill_buffer), n draws that hand out nothing (skip). `before` and `after` are the lent slice at the call and at the return;
-- of a byte fill r is what its result answers, its refusal's number among it.
pub data Call : Type 1 where
  draw : (r : Draw) → Call
  group : (r : Blocks) → Call
  seek : (n : ℕ) → n < 2 ^ 64 → (r : Philox4x32X8) → Call
  fill : {A : Type 0} (K : Kind A) (before after : List A) (r : Fill) → Call
  bytes : (k : ℕ) (before after : List ℕ) (r : Answer Fill) → Call
  many : (at m : ℕ) (before after : List ℕ) (draws : ℕ) (label : Label) (rng : Philox4x32X8) → Call
  skip : (n : ℕ) (rng : Philox4x32X8) → Call

-- what the function promises of the call on the generator s: its `ensures`, word for word (specs/philox4x32/Shipped.antt)
abbrev pub Step : Philox4x32X8 → Call → Type 0
Step s (draw r) = r ≡ drawn s
Step s (group r) = r ≡ grouped s
Step s (seek n u64 r) = r ≡ sought s n
Step s (fill K before after r) = LabelledFill K s before after r
Step s (bytes k before after r) = LabelledBytes k s before after r
Step s (many at m before after draws label rng) = DrawnAt engine s at m before after draws rng × (label ≡ label_of s)
Step s (skip n rng) = rng ≡ skipped n s

-- the generator that the call handed back
abbrev pub rng_of : Call → Philox4x32X8
rng_of (draw r) = r.rng
rng_of (group r) = r.rng
rng_of (seek n u64 r) = r
rng_of (fill K before after r) = r.rng
rng_of (bytes k before after r) = r.value.rng
rng_of (many at m before after draws label rng) = rng
rng_of (skip n rng) = rng

-- the generator after a list of calls that began with s₀
abbrev pub rng_after : Philox4x32X8 → List Call → Philox4x32X8
rng_after = lists.end_of rng_of

-- the calls were made one after another, each on the generator that the one before it handed back
abbrev pub Run : Philox4x32X8 → List Call → Type 1
Run = lists.Run Step rng_of
