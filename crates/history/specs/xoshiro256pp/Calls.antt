-- Lists of calls on one eight-lane generator (the scope document, "Lists of calls"). A list has its latest call first, so that its tail is
-- what came before its head.
use Rattle.std.specs.Prelude.{List, ◌≡◌, ℕ}
use Rattle.base.specs.Engine.{DrawnAt}
use Rattle.base.specs.Lists as lists
use Rattle.base.specs.Refusal.{Answer}
use Rattle.fills.specs.Fill.{Kind, Filled}
use Rattle.fills.specs.FillBytes.{FilledBytes}
use Rattle.xoshiro.specs.x8.Calls.{drawn, moved_blocks, skipped, engine}
use Rattle.xoshiro.specs.declared.x8.Draw.{Draw}
use Rattle.xoshiro.specs.declared.x8.Placed.{Placed}
use Rattle.xoshiro.specs.declared.x8.Xoshiro256ppX8.{Xoshiro256ppX8}
use Rattle.xoshiro_fills.specs.declared.fill_words.Fill.{Fill}

-- A call, with what it was handed besides the generator and what it handed back: a single draw (next_u64x8), a typed fill, a byte fill with
-- its kind's number, a block move (jump_blocks), m draws whose words go into a slice from place `at` on (draw_many, fill_buffer), n draws
-- that hand out nothing (skip). `before` and `after` are the lent slice at the call and at the return;
-- of a byte fill r is what its result answers, its refusal's number among it.
pub data Call : Type 1 where
  draw : (r : Draw) → Call
  fill : {A : Type 0} (K : Kind A) (before after : List A) (r : Fill) → Call
  bytes : (k : ℕ) (before after : List ℕ) (r : Answer Fill) → Call
  move : (n : ℕ) (r : Placed) → Call
  many : (at m : ℕ) (before after : List ℕ) (draws : ℕ) (rng : Xoshiro256ppX8) → Call
  skip : (n : ℕ) (rng : Xoshiro256ppX8) → Call

-- what the function promises of the call on the generator g: its `ensures`, word for word (specs/xoshiro256pp/Shipped.antt)
abbrev pub Step : Xoshiro256ppX8 → Call → Type 0
Step g (draw r) = r ≡ drawn g
Step g (fill K before after r) = Filled engine K g before after r.draws r.rng
Step g (bytes k before after r) = FilledBytes engine k g before after r.refusal r.value.draws r.value.rng
Step g (move n r) = r ≡ moved_blocks n g
Step g (many at m before after draws rng) = DrawnAt engine g at m before after draws rng
Step g (skip n rng) = rng ≡ skipped n g

-- the generator that the call handed back
abbrev pub rng_of : Call → Xoshiro256ppX8
rng_of (draw r) = r.rng
rng_of (fill K before after r) = r.rng
rng_of (bytes k before after r) = r.value.rng
rng_of (move n r) = r.rng
rng_of (many at m before after draws rng) = rng
rng_of (skip n rng) = rng

-- the generator after a list of calls that began with g₀
abbrev pub rng_after : Xoshiro256ppX8 → List Call → Xoshiro256ppX8
rng_after = lists.end_of rng_of

-- the calls were made one after another, each on the generator that the one before it handed back
abbrev pub Run : Xoshiro256ppX8 → List Call → Type 1
Run = lists.Run Step rng_of
