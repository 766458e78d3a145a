-- What is claimed of steps and jumps. Each claim is proved in proofs/Theorems.antt, as commute : Commute.
use Rattle.std.specs.Prelude.{false, List, ◌≡◌, ℕ, ◌+◌, ◌*◌, ◌^◌, ◌<◌, length}
use Rattle.base.specs.Iterate.{iterate}
use Rattle.xoshiro_steps.specs.Xoshiro256pp.{State, step, steps, plus, bit_of, summed, jumped, highest_of}
use Rattle.xoshiro_steps.specs.Xoshiro256pp.{jumps, jump_poly, long_jump_poly, all_zero}

-- what a state's type says: four words below 2 ^ 64
pub record Words (s : State) : Type 0 where
  pub w0 : s.w0 < 2 ^ 64
  pub w1 : s.w1 < 2 ^ 64
  pub w2 : s.w2 < 2 ^ 64
  pub w3 : s.w3 < 2 ^ 64

-- a step is linear over xor
abbrev pub StepLinear : Type 0
StepLinear = (a b : State) → step (plus a b) ≡ plus (step a) (step b)

-- jumps by any two polynomials commute, on every state: so do jumps and long jumps
abbrev pub Commute : Type 0
Commute = (p q : List ℕ) (s : State) → jumped p (jumped q s) ≡ jumped q (jumped p s)

-- and a jump by any polynomial commutes with a step
abbrev pub StepCommutes : Type 0
StepCommutes = (p : List ℕ) (s : State) → jumped p (step s) ≡ step (jumped p s)

-- and so do runs of them, of any lengths
abbrev pub RunsCommute : Type 0
RunsCommute = (p q : List ℕ) (m n : ℕ) (s : State)
    → iterate (jumped p) m (iterate (jumped q) n s) ≡ iterate (jumped q) n (iterate (jumped p) m s)

abbrev pub StepsCommute : Type 0
StepsCommute = (p : List ℕ) (m n : ℕ) (s : State) → iterate (jumped p) m (steps n s) ≡ steps n (iterate (jumped p) m s)

-- ---- the early end of a jump
-- a polynomial's highest set bit is set, if any of its 256 bits is
abbrev pub HighestSet : Type 0
HighestSet = (p : List ℕ) (k : ℕ) → k < 256 → bit_of p k ≡ 1 → bit_of p (highest_of p) ≡ 1

-- and none above it is, in four words
abbrev pub NoneAbove : Type 0
NoneAbove = (p : List ℕ) → length p ≡ 4 → (k : ℕ) → highest_of p < k → bit_of p k ≡ 0

-- so the sum up to that bit is the whole jump
abbrev pub EarlySum : Type 0
EarlySum = (p : List ℕ) (s : State) → summed p (highest_of p + 1) s ≡ jumped p s

-- ---- how far a jump goes, on every state of four words below 2 ^ 64. Blackman and Vigna state both distances in xoshiro256plusplus.c
-- a jump gives what 2 ^ 128 steps give, and a long jump what 2 ^ 192 give
abbrev pub JumpIs : Type 0
JumpIs = (s : State) → Words s → jumped jump_poly s ≡ steps (2 ^ 128) s

abbrev pub LongJumpIs : Type 0
LongJumpIs = (s : State) → Words s → jumped long_jump_poly s ≡ steps (2 ^ 192) s

-- so n of them are n times as many
abbrev pub JumpsAre : Type 0
JumpsAre = (n : ℕ) (s : State) → Words s → jumps n s ≡ steps (n * 2 ^ 128) s

abbrev pub LongJumpsAre : Type 0
LongJumpsAre = (n : ℕ) (s : State) → Words s → iterate (jumped long_jump_poly) n s ≡ steps (n * 2 ^ 192) s

-- a state with a nonzero word never jumps, nor long-jumps, to four zero words
abbrev pub NeverZero : Type 0
NeverZero = (s : State) → Words s → all_zero s ≡ false → all_zero (jumped jump_poly s) ≡ false

abbrev pub LongNeverZero : Type 0
LongNeverZero = (s : State) → Words s → all_zero s ≡ false → all_zero (jumped long_jump_poly s) ≡ false
