-- What each call on a scalar generator answers, as the declared records.
use Rattle.std.specs.Prelude.{ℕ, cond, List, [], ◌∷◌}
use Rattle.base.specs.Quad.{quad_of, list_of}
use Rattle.base.specs.Refusal.{Answer}
use Rattle.xoshiro_steps.specs.Xoshiro256pp.{State, output, step, steps, jumped, highest_of, jumps, all_zero}
use Rattle.xoshiro.specs.scalar.Seeded.{seeded}
use Rattle.xoshiro.specs.declared.scalar.Xoshiro256pp.{Xoshiro256pp}
use Rattle.xoshiro.specs.declared.scalar.Draw.{Draw}
use Rattle.xoshiro.specs.declared.scalar.Jump.{Jump}

-- a generator's state, and back
abbrev pub state_of : Xoshiro256pp → State
state_of g = quad_of g.s

abbrev pub generator : State → Xoshiro256pp
generator s = record { s = list_of s }

-- an accepted answer; a refusal with its number, and zero bits
abbrev pub accepted : Xoshiro256pp → Answer Xoshiro256pp
accepted g = record { refusal = 0; value = g }

abbrev pub blank : Xoshiro256pp
blank = record { s = 0 ∷ 0 ∷ 0 ∷ 0 ∷ [] }

abbrev pub refused : ℕ → Answer Xoshiro256pp
refused n = record { refusal = n; value = blank }

-- from_state: four zero words are refused with 3
unfoldable pub checked : List ℕ → Answer Xoshiro256pp
checked s = cond (all_zero (quad_of s)) (refused 3) (accepted (record { s = s }))

abbrev pub seeded_by : ℕ → Xoshiro256pp
seeded_by seed = generator (seeded seed)

-- next_u64
unfoldable pub drawn : Xoshiro256pp → Draw
drawn g = record { word = output (state_of g); rng = generator (step (state_of g)) }

-- jump and long_jump, by their polynomials: as many steps are made as there are bits below the highest set one
unfoldable pub jumped_by : List ℕ → Xoshiro256pp → Jump
jumped_by poly g =
    record {
      rng = generator (jumped poly (state_of g));
      steps = highest_of poly;
      walked = generator (steps (highest_of poly) (state_of g));
    }

-- jumps and steps: n of them
abbrev pub jumps_made : ℕ → Xoshiro256pp → Xoshiro256pp
jumps_made n g = generator (jumps n (state_of g))

abbrev pub steps_made : ℕ → Xoshiro256pp → Xoshiro256pp
steps_made n g = generator (steps n (state_of g))
