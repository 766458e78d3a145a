-- What is claimed of the calls on one stream. Each claim is proved in proofs/scalar/Theorems.antt, as jump-steps : JumpSteps.
use Rattle.std.specs.Prelude.{◌≡◌, ℕ, ◌+◌, ◌*◌, ◌^◌, ◌<◌, List}
use Rattle.xoshiro_steps.specs.Xoshiro256pp.{steps, none, bit_of, jumped, highest_of, jumps, jump_poly, long_jump_poly}
use Rattle.xoshiro.specs.scalar.Seeded.{seeded}
use Rattle.xoshiro.specs.scalar.Calls.{state_of, generator, jumped_by}
use Rattle.xoshiro.specs.declared.scalar.Xoshiro256pp.{Xoshiro256pp}

-- a jump answers the jumped state; how many steps it made, which is that bit's place; and the start after so many steps
abbrev pub JumpAnswers : Type 0
JumpAnswers = (p : List ℕ) (g : Xoshiro256pp)
    → (state_of (jumped_by p g).rng ≡ jumped p (state_of g))
    × ((jumped_by p g).steps ≡ highest_of p)
    × (state_of (jumped_by p g).walked ≡ steps (jumped_by p g).steps (state_of g))

-- of JUMP and of LONG_JUMP that is 253
abbrev pub JumpSteps : Type 0
JumpSteps = (g : Xoshiro256pp) → ((jumped_by jump_poly g).steps ≡ 253) × ((jumped_by long_jump_poly g).steps ≡ 253)

-- where no bit is set no step is made, and the sum is zero
abbrev pub NoBitSet : Type 0
NoBitSet = (p : List ℕ) → ((k : ℕ) → k < 256 → bit_of p k ≡ 0) → (g : Xoshiro256pp)
    → jumped_by p g ≡ record { rng = generator none; steps = 0; walked = generator (state_of g) }

-- the seed's state after j jumps and then d steps is its state after j times 2 ^ 128, and d, steps
abbrev pub SeedDistance : Type 0
SeedDistance = (seed j d : ℕ) → steps d (jumps j (seeded seed)) ≡ steps (j * 2 ^ 128 + d) (seeded seed)
