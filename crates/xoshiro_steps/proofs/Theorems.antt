-- The claims of specs/Claims.antt. Assumes nothing.
use mathlib.Core.List.{List}
use mathlib.Core.Path.{◌≡◌, sym, ap, ◌∙◌}
use Prim.Native.Nat.{ℕ, zero, suc, ◌*◌, ◌/◌, ◌%◌, ◌^◌, ◌<◌}
use native.Mathlib.Nat.{div-eq_of_lt, zero-mul, suc-mul}
use native.Mathlib.Decide.{dec_lt}
use native.Mathlib.Omega.{arith}
use lib.ListN.{length, get_or, get_or-eq_default}
use lib.Pow.{pow_pos}
use Rattle.base.specs.Iterate.{iterate}
use Rattle.base.proofs.Iterate.{iterate_commute, iterate-then}
use Rattle.xoshiro_steps.specs.Xoshiro256pp.{State, step, steps, bit_of, jumped, highest_below, highest_of}
use Rattle.xoshiro_steps.specs.Xoshiro256pp.{jump_poly, long_jump_poly, all_zero}
use Rattle.xoshiro_steps.specs.Claims.{Words, StepLinear, Commute, StepCommutes, RunsCommute, StepsCommute}
use Rattle.xoshiro_steps.specs.Claims.{HighestSet, NoneAbove, EarlySum}
use Rattle.xoshiro_steps.specs.Claims.{JumpIs, LongJumpIs, JumpsAre, LongJumpsAre, NeverZero, LongNeverZero}
use Rattle.xoshiro_steps.proofs.Linear.{step-plus, jumped_linear, linear_jumped}
use Rattle.xoshiro_steps.proofs.Bits.{above_clear, some-set, summed_early}
use Rattle.xoshiro_steps.proofs.Nonzero.{nonzero_steps}
use Rattle.xoshiro_steps.proofs.Widths.{words-steps}
use Rattle.xoshiro_steps.proofs.Distance.{jump_distance, long_jump_distance}

pub step_linear : StepLinear
step_linear = step-plus

-- a jump is linear, and what is linear goes past jumps and steps
pub commute : Commute
commute p q s = linear_jumped (jumped p) (jumped_linear p) q s

pub step_commutes : StepCommutes
step_commutes p s = (jumped_linear p).steps_with s

pub runs_commute : RunsCommute
runs_commute p q m n s = iterate_commute (jumped q) (jumped p) (commute p q) m n s

pub steps_commute : StepsCommute
steps_commute p m n s = iterate_commute step (jumped p) (step_commutes p) m n s

-- a bit is 0 or 1
bit_one : (p : List ℕ) (k : ℕ) → (bit_of p k ≡ 0 → ⊥) → bit_of p k ≡ 1
unfolding bit_of
bit_one p k h = two (get_or p (k / 64) 0 / 2 ^ (k % 64)) h
  where
    two : (x : ℕ) → (x % 2 ≡ 0 → ⊥) → x % 2 ≡ 1
    two x h = omega arith

pub highest_set : HighestSet
unfolding highest_of
highest_set p k l e = bit_one p (highest_below p 256) (some-set p 256 k l (λ z. let f = sym e ∙ z in absurd (omega arith)))

-- past the four words there are no bits
past_words : (p : List ℕ) (k : ℕ) → length p ≡ 4 → (k < 256 → ⊥) → bit_of p k ≡ 0
unfolding bit_of
past_words p k four h =
    ap (λ (x : ℕ). x / 2 ^ (k % 64) % 2) (get_or-eq_default p 0 (omega arith)) ∙ ap (λ (x : ℕ). x % 2) (div-eq_of_lt (pow_pos (k % 64)))

pub none_above : NoneAbove
unfolding highest_of
none_above p four k h = elim (dec_lt k 256) [ yes l ↦ above_clear p 256 k h l | no l ↦ past_words p k four l ]

pub early_sum : EarlySum
early_sum p s = summed_early p s

-- ---- how far a jump goes
pub jump_is : JumpIs
jump_is = jump_distance

pub long_jump_is : LongJumpIs
long_jump_is = long_jump_distance

-- n times m steps, by any map that is m steps
repeated : (f : State → State) (m : ℕ) → ((s : State) → Words s → f s ≡ steps m s)
    → (n : ℕ) (s : State) → Words s → iterate f n s ≡ steps (n * m) s
unfolding iterate
repeated f m h zero s w = ap (λ (k : ℕ). steps k s) (sym (zero-mul m))
repeated f m h (suc n) s w =
    ap f (repeated f m h n s w) ∙ h (steps (n * m) s) (words-steps (n * m) s w)
    ∙ sym (iterate-then step (n * m) m s) ∙ ap (λ (k : ℕ). steps k s) (sym (suc-mul n m))

pub jumps_are : JumpsAre
jumps_are = repeated (jumped jump_poly) (2 ^ 128) jump_distance

pub long_jumps_are : LongJumpsAre
long_jumps_are = repeated (jumped long_jump_poly) (2 ^ 192) long_jump_distance

pub never_zero : NeverZero
never_zero s w n = ap all_zero (jump_distance s w) ∙ nonzero_steps (2 ^ 128) s w n

pub long_never_zero : LongNeverZero
long_never_zero s w n = ap all_zero (long_jump_distance s w) ∙ nonzero_steps (2 ^ 192) s w n
