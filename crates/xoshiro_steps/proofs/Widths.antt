-- A step and a jump give states of words below 2 ^ 64. Assumes nothing.
use mathlib.Core.List.{List}
use Prim.Native.Nat.{ℕ, zero, suc, ◌+◌, ◌*◌, ◌/◌, ◌%◌, ◌^◌, ◌<◌}
use native.Mathlib.Nat.{mod-lt}
use native.Mathlib.Omega.{arith}
use lib.Bits.{xor_lt}
use lib.Dec.{lit<}
use lib.Pow.{pow_pos}
use Rattle.base.proofs.Iterate.{iterate_keeps}
use Rattle.words.specs.Words.{shl, rotl}
use Rattle.xoshiro_steps.specs.Claims.{Words}
use Rattle.xoshiro_steps.specs.Xoshiro256pp.{State, step, steps, plus, none, bit_of, times, summed}
use Rattle.xoshiro_steps.specs.Xoshiro256pp.{jumped}

rotl_lt : (x : ℕ) → x % 2 ^ 19 * 2 ^ 45 + x / 2 ^ 19 % 2 ^ 45 < 2 ^ 64
rotl_lt x = omega arith

pub words_step : (s : State) → Words s → Words (step s)
unfolding step shl rotl
words_step s h =
    let a = xor_lt 64 s.w2 s.w0 h.w2 h.w0 in
    let b = xor_lt 64 s.w3 s.w1 h.w3 h.w1 in
    record {
      w0 = xor_lt 64 s.w0 _ h.w0 b;
      w1 = xor_lt 64 s.w1 _ h.w1 a;
      w2 = xor_lt 64 _ _ a (mod-lt _ (pow_pos 64));
      w3 = rotl_lt _;
    }

pub words-steps : (n : ℕ) (s : State) → Words s → Words (steps n s)
words-steps = iterate_keeps Words step words_step

-- ---- jumps: sums of states
pub words-none : Words none
unfolding none
words-none = record { w0 = lit< tt; w1 = lit< tt; w2 = lit< tt; w3 = lit< tt }

pub words-plus : (a b : State) → Words a → Words b → Words (plus a b)
unfolding plus
words-plus a b h k =
    record {
      w0 = xor_lt 64 a.w0 b.w0 h.w0 k.w0;
      w1 = xor_lt 64 a.w1 b.w1 h.w1 k.w1;
      w2 = xor_lt 64 a.w2 b.w2 h.w2 k.w2;
      w3 = xor_lt 64 a.w3 b.w3 h.w3 k.w3;
    }

pub words-times : (n : ℕ) (s : State) → Words s → Words (times n s)
unfolding times
words-times zero s h = words-none
words-times (suc n) s h = h

words-summed : (p : List ℕ) (k : ℕ) (s : State) → Words s → Words (summed p k s)
unfolding summed
words-summed p zero s h = words-none
words-summed p (suc k) s h = words-plus _ _ (words-summed p k s h) (words-times (bit_of p k) (steps k s) (words-steps k s h))

pub words-jumped : (p : List ℕ) (s : State) → Words s → Words (jumped p s)
unfolding jumped
words-jumped p s h = words-summed p 256 s h
