-- The table of specs/Claims.antt. Assumes nothing.
use mathlib.Core.Path.{refl}
use lib.Ieee.{round}
use Rattle.floats.specs.units.Unit.{dyadic, unit}
use Rattle.fills.specs.Kinds.{kind_at}
use Rattle.words.specs.Words.{shl, rotl}
use Rattle.xoshiro_steps.specs.Xoshiro256pp.{output, step}
use Rattle.xoshiro.specs.x8.Calls.{moved_blocks}
use Rattle.philox.specs.x8.Machine.{sought, holding, grouped, next_of}
use Rattle.cases.specs.Claims.{Cases}

pub cases : Cases
unfolding kind_at unit dyadic round output step shl rotl sought holding grouped next_of moved_blocks
cases =
    record {
      first_output = refl;
      second_output = refl;
      after_first = refl;
      unit32_255 = refl;
      unit32_256 = refl;
      unit32_last = refl;
      unit64_4095 = refl;
      unit64_4096 = refl;
      draws_4_0 = refl;
      draws_4_8 = refl;
      draws_4_9 = refl;
      draws_6_16 = refl;
      draws_6_17 = refl;
      wrapped_counter = λ g. refl;
      wrapped_waits = λ g. refl;
      mixed_counter = λ g. refl;
      mixed_waits = λ g. refl;
      wrapped_move = λ g. refl;
    }
