-- The scope document's worked cases, one table. It is proved in proofs/Theorems.antt.
use Rattle.std.specs.Prelude.{true, false, ◌≡◌, ◌+◌, ◌-◌, ◌^◌, negsuc}
use Rattle.std.specs.Float.{binary32, binary64, fin}
use Rattle.floats.specs.patterns.Numbers as numbers
use Rattle.floats.specs.units.Unit.{unit}
use Rattle.fills.specs.Fill.{draws_for}
use Rattle.fills.specs.Kinds.{kind_at}
use Rattle.xoshiro_steps.specs.Xoshiro256pp.{State, output, step}
use Rattle.xoshiro.specs.x8.Calls.{moved_blocks}
use Rattle.xoshiro.specs.declared.x8.Xoshiro256ppX8.{Xoshiro256ppX8}
use Rattle.philox.specs.x8.Machine.{sought, grouped, next_of}
use Rattle.philox.specs.declared.x8.Philox4x32X8.{Philox4x32X8}

abbrev pub start : State
start = record { w0 = 1; w1 = 2; w2 = 3; w3 = 4 }

pub record Cases : Type 0 where
  -- state (1, 2, 3, 4): two outputs, and the state after the first
  pub first_output : output start ≡ 41943041
  pub second_output : output (step start) ≡ 58720359
  pub after_first : step start ≡ record { w0 = 7; w1 = 0; w2 = 262146; w3 = 211106232532992 }
  -- unit f32 of 255: 0; of 256: 2 ^ -24; of 2 ^ 32 - 1: (2 ^ 24 - 1) / 2 ^ 24 (`fin false m (negsuc k)` is m / 2 ^ (k + 1))
  pub unit32_255 : unit binary32 255 ≡ numbers.zero
  pub unit32_256 : unit binary32 256 ≡ fin false 1 (negsuc 23)
  pub unit32_last : unit binary32 (2 ^ 32 - 1) ≡ fin false (2 ^ 24 - 1) (negsuc 23)
  -- unit f64 of 4095: 0; of 4096: 2 ^ -52
  pub unit64_4095 : unit binary64 4095 ≡ numbers.zero
  pub unit64_4096 : unit binary64 4096 ≡ fin false 1 (negsuc 51)
  -- draws: kind 4, n = 0, 8, 9: 0, 1, 2; kind 6, n = 16, 17: 2, 4
  pub draws_4_0 : draws_for (kind_at 4).kind 0 ≡ 0
  pub draws_4_8 : draws_for (kind_at 4).kind 8 ≡ 1
  pub draws_4_9 : draws_for (kind_at 4).kind 9 ≡ 2
  pub draws_6_16 : draws_for (kind_at 6).kind 16 ≡ 2
  pub draws_6_17 : draws_for (kind_at 6).kind 17 ≡ 4
  -- Philox: seek 2 ^ 64 - 1, draw
  pub wrapped_counter : (g : Philox4x32X8) → (next_of (sought g (2 ^ 64 - 1))).counter ≡ 7
  pub wrapped_waits : (g : Philox4x32X8) → (next_of (sought g (2 ^ 64 - 1))).waiting ≡ true
  -- Philox: seek 5, draw, blocks, draw
  pub mixed_counter : (g : Philox4x32X8) → (next_of (grouped (next_of (sought g 5))).rng).counter ≡ 21
  pub mixed_waits : (g : Philox4x32X8) → (next_of (grouped (next_of (sought g 5))).rng).waiting ≡ false
  -- a move by 2 ^ 61 + 1 blocks: 8 jumps
  pub wrapped_move : (g : Xoshiro256ppX8) → (moved_blocks (2 ^ 61 + 1) g).jumps ≡ 8
