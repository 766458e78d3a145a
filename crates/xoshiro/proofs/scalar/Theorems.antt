-- The claims of specs/scalar/Claims.antt. Assumes nothing.
use Rattle.std.proofs.Common.{◌*◌, ◌^◌, sym, refl, ap, ◌∙◌}
use Rattle.base.specs.Iterate.{iterate}
use Rattle.base.proofs.Iterate.{iterate-then}
use Rattle.xoshiro_steps.specs.Xoshiro256pp.{step, steps, bit_of, jumped, highest_below, highest_of}
use Rattle.xoshiro_steps.proofs.Bits.{highest_none, summed_nothing}
use Rattle.xoshiro_steps.proofs.Theorems.{jumps_are}
use Rattle.xoshiro.specs.scalar.Seeded.{seeded}
use Rattle.xoshiro.specs.scalar.Calls.{state_of, generator, jumped_by}
use Rattle.xoshiro.specs.scalar.Claims.{JumpAnswers, JumpSteps, NoBitSet, SeedDistance}
use Rattle.xoshiro.proofs.scalar.Seeding.{words-seeded}

pub jump_answers : JumpAnswers
unfolding jumped_by
jump_answers p g = (refl, refl, refl)

pub jump_steps : JumpSteps
unfolding jumped_by highest_of highest_below bit_of
jump_steps g = (refl, refl)

pub no_bit_set : NoBitSet
unfolding jumped_by jumped highest_of iterate
no_bit_set p h g =
    let top = highest_none p 256 h in
    λ i. record { rng = generator (summed_nothing p 256 (state_of g) h i); steps = top i; walked = generator (steps (top i) (state_of g)) }

pub seed_distance : SeedDistance
seed_distance seed j d =
    ap (steps d) (jumps_are j (seeded seed) (words-seeded seed)) ∙ sym (iterate-then step (j * 2 ^ 128) d (seeded seed))
