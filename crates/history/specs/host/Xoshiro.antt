-- Lists of a host's calls on one form of the eight-lane generator, and what holds after every list on the form that gp_xoshiro_new wrote:
-- demand 3 for a host. A list has its latest call first, so that its tail is what came before its head.
use Rattle.std.specs.Prelude.{List, ◌≡◌, ℕ, ◌+◌, ◌*◌, ◌^◌, ℤ, pos, length}
use Rattle.base.specs.Lists as lists
use Rattle.base.specs.Lists.{total, Each}
use Rattle.fills.specs.FillBytes.{refusal_of, bytes_draws}
use Rattle.girderpeach.specs.Xoshiro.{Filled, New, JumpedBlocks, Skipped}
use Rattle.xoshiro_steps.specs.Xoshiro256pp.{State, steps, jumps}
use Rattle.xoshiro.specs.scalar.Seeded.{seeded}
use Rattle.history.specs.xoshiro256pp.History.{words_at}
use Rattle.saved.specs.xoshiro256pp.Form.{form_of}
use Rattle.xoshiro.specs.x8.Calls.{block_jumps}
use Rattle.xoshiro.specs.x8.Lanes.{of_states}
use Rattle.xoshiro.specs.declared.x8.Xoshiro256ppX8.{Xoshiro256ppX8}
use Rattle.history.specs.host.Answers.{if_accepted, answered, RightAnswer}

-- A call, with what it was handed besides the form and what it left: a fill (gp_xoshiro_fill), with the output before and after it; a move
-- (gp_xoshiro_jump_blocks), with the number for its jumps before and after it; a skip of n draws (gp_xoshiro_skip). `form` is the form that
-- it left.
pub data Call : Type 0 where
  fill : (k : ℕ) (before after : List ℕ) (answer : ℤ) (form : List ℕ) → Call
  move : (n before after : ℕ) (answer : ℤ) (form : List ℕ) → Call
  skip : (n : ℕ) (answer : ℤ) (form : List ℕ) → Call

-- what the function promises of the call on the form s: its `ensures`, word for word (specs/host/Shipped.antt)
abbrev pub Step : List ℕ → Call → Type 0
Step s (fill k before after answer form) = Filled s k before answer form after
Step s (move n before after answer form) = JumpedBlocks n s before answer form after
Step s (skip n answer form) = Skipped n s answer form

-- the form that the call left, and the form after a list of calls that began with s₀
abbrev pub form_in : Call → List ℕ
form_in (fill k before after answer form) = form
form_in (move n before after answer form) = form
form_in (skip n answer form) = form

abbrev pub form_after : List ℕ → List Call → List ℕ
form_after = lists.end_of form_in

-- the calls were made one after another, each on the form that the one before it left
abbrev pub Run : List ℕ → List Call → Type 0
Run = lists.Run Step form_in

-- ---- what the calls reported, and D and J, whole numbers, never reduced: a refused call counts nothing, and a skip its draws
abbrev pub draws_reported : Call → ℕ
draws_reported (fill k before after answer form) = answered answer
draws_reported (move n before after answer form) = 0
draws_reported (skip n answer form) = if_accepted answer n 0

abbrev pub jumps_reported : Call → ℕ
jumps_reported (fill k before after answer form) = 0
jumps_reported (move n before after answer form) = if_accepted answer after 0
jumps_reported (skip n answer form) = 0

abbrev pub draws_counted : Call → ℕ
draws_counted (fill k before after answer form) = if_accepted answer (bytes_draws k (length before)) 0
draws_counted (move n before after answer form) = 0
draws_counted (skip n answer form) = if_accepted answer n 0

abbrev pub jumps_counted : Call → ℕ
jumps_counted (fill k before after answer form) = 0
jumps_counted (move n before after answer form) = if_accepted answer (block_jumps n) 0
jumps_counted (skip n answer form) = 0

abbrev pub D : List Call → ℕ
D calls = total draws_counted calls

abbrev pub J : ℕ → List Call → ℕ
J b calls = block_jumps b + total jumps_counted calls

-- ---- the claim
-- the generator whose lane i stands at the seed's state s after j + i jumps and then d steps
abbrev pub standing : State → ℕ → ℕ → Xoshiro256ppX8
standing s d j = of_states (λ i. steps d (jumps (j + i) s))

-- a move is never refused, and writes its jumps
pub record RightMove (n after : ℕ) (answer : ℤ) : Type 0 where
  pub answers : answer ≡ pos 0
  pub counts : after ≡ block_jumps n

-- a call is right, where D and J before it are d and j: only a kind or a length is ever refused. Draw m of a fill has m more in its D. A
-- skip is never refused
abbrev pub Right : State → ℕ → ℕ → List ℕ → Call → Type 0
Right s d j form (fill k before after answer form') = RightAnswer (refusal_of k (length before)) (λ m. words_at s (d + m) j) k before after answer form form'
Right s d j form (move n before after answer form') = RightMove n after answer
Right s d j form (skip n answer form') = answer ≡ pos 0

abbrev pub AllRight : ℕ → ℕ → List ℕ → List Call → Type 0
AllRight seed b s₀ = Each (λ calls c. Right (seeded seed) (D calls) (J b calls) (form_after s₀ calls) c)

-- gp_xoshiro_new at seed and block b wrote the form s₀ and the number j, and the calls were made on that form
pub record History (seed b j : ℕ) (s₀ : List ℕ) (calls : List Call) : Type 0 where
  -- the reported totals are D and J
  pub draws : total draws_reported calls ≡ D calls
  pub jumps_total : j + total jumps_reported calls ≡ J b calls
  -- the form is that of the state after J + i jumps of lane i and then D steps
  pub form : form_after s₀ calls ≡ form_of (standing (seeded seed) (D calls) (J b calls))
  -- which is the seed's stream in lane i after (J + i) times 2 ^ 128, and D, steps
  pub distance : form_after s₀ calls ≡ form_of (of_states (λ i. steps ((J b calls + i) * 2 ^ 128 + D calls) (seeded seed)))
  -- every call answered and wrote what it should
  pub outputs : AllRight seed b s₀ calls

abbrev pub HostAddsUp : Type 0
HostAddsUp = (seed b : ℕ) (before : List ℕ) (j₀ : ℕ) (s₀ : List ℕ) (j : ℕ) (calls : List Call) → New seed b before j₀ (pos 0) s₀ j → Run s₀ calls → History seed b j s₀ calls
