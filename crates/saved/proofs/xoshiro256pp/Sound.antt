-- What a form asks of a generator: words below 2 ^ 64, and no lane of four zeros. Every constructor gives it and every call keeps it. Assumes
-- nothing.
use Rattle.std.proofs.Common.{◌≡◌, ℕ, ◌+◌, ◌^◌, ◌<◌, Bool, true, false, cond, not, T, List, length, get_or, sym, refl, ap, ◌∙◌, subst, arith}
use lib.ListN.{get_or-replicate}
use Rattle.base.specs.Every.{every}
use Rattle.base.specs.Refusal.{Answer}
use Rattle.base.specs.Iterate.{iterate}
use Rattle.base.specs.Quad.{rows_of}
use Rattle.base.proofs.Every.{every_each}
use Rattle.base.proofs.Iterate.{iterate_keeps}
use Rattle.base.proofs.Quad.{column-rows_of}
use Rattle.base.proofs.Table.{length-table}
use Rattle.saved.specs.fields.Fields.{fields}
use Rattle.saved.proofs.fields.Bounds.{field_below}
use Rattle.saved.proofs.fields.Fields.{Bytes}
use Rattle.xoshiro.specs.scalar.Calls.{state_of}
use Rattle.xoshiro_steps.specs.Claims as scalar
use Rattle.xoshiro_steps.specs.Xoshiro256pp.{State, step, jumped, jump_poly, jumps, all_zero}
use Rattle.xoshiro.specs.scalar.Seeded.{seeded}
use Rattle.xoshiro.specs.declared.scalar.Xoshiro256pp.{Xoshiro256pp}
use Rattle.xoshiro_steps.proofs.Nonzero.{nonzero_steps}
use Rattle.xoshiro.proofs.scalar.Seeding.{nonzero_seeded}
use Rattle.xoshiro_steps.proofs.Widths.{words_step, words-jumped}
use Rattle.xoshiro.proofs.scalar.Seeding.{words-seeded}
use Rattle.xoshiro.specs.rows.Lanes.{stepped}
use Rattle.xoshiro.specs.x8.Calls.{next_of, block_jumps, placed, moved_blocks, is_valid, no_lane, of_lanes, blank8, from_lanes}
use Rattle.xoshiro.specs.x8.Lanes.{lane_of, of_states}
use Rattle.xoshiro.specs.declared.x8.Xoshiro256ppX8.{Xoshiro256ppX8}
use Rattle.xoshiro_steps.proofs.Theorems.{never_zero}
use Rattle.saved.specs.xoshiro256pp.Claims.{Words, NoZeroLane}
use Rattle.saved.specs.xoshiro256pp.Form.{layout, lane_in, loaded}
use Rattle.saved.proofs.xoshiro256pp.Form.{load-accepted}

-- ---- a lane
record Live (s : State) : Type 0 where
  words : scalar.Words s
  nonzero : all_zero s ≡ false

live_step : (s : State) → Live s → Live (step s)
unfolding iterate
live_step s l = record { words = words_step s l.words; nonzero = nonzero_steps 1 s l.words l.nonzero }

live_jumps : (n : ℕ) (s : State) → Live s → Live (jumps n s)
live_jumps = iterate_keeps Live (jumped jump_poly) (λ s l. record { words = words-jumped jump_poly s l.words; nonzero = never_zero s l.words l.nonzero })

live_seeded : (seed : ℕ) → Live (seeded seed)
live_seeded seed = record { words = words-seeded seed; nonzero = nonzero_seeded seed }

-- ---- a generator
pub record Sound (g : Xoshiro256ppX8) : Type 0 where
  pub words : Words g
  pub nonzero : NoZeroLane g

live_lane : {g : Xoshiro256ppX8} → Sound g → (i : ℕ) → i < 8 → Live (lane_of g i)
live_lane h i l = record { words = h.words.lanes i l; nonzero = h.nonzero i l }

sound_states : (f : ℕ → State) → ((i : ℕ) → i < 8 → Live (f i)) → Sound (of_states f)
unfolding rows_of
sound_states f h =
    record {
      words =
          record {
            eights = record { row0 = length-table 8 _; row1 = length-table 8 _; row2 = length-table 8 _; row3 = length-table 8 _ };
            lanes = λ i l. subst scalar.Words (sym (column-rows_of f i l)) (h i l).words;
          };
      nonzero = λ i l. ap all_zero (column-rows_of f i l) ∙ (h i l).nonzero;
    }

pub sound_placed : (seed b : ℕ) → Sound (placed seed b).rng
unfolding placed
sound_placed seed b = sound_states _ (λ i l. live_jumps (block_jumps b + i) (seeded seed) (live_seeded seed))

pub sound_next : (g : Xoshiro256ppX8) → Sound g → Sound (next_of g)
unfolding next_of stepped
sound_next g h = sound_states _ (λ i l. live_step (lane_of g i) (live_lane h i l))

pub sound_moved : (n : ℕ) (g : Xoshiro256ppX8) → Sound g → Sound (moved_blocks n g).rng
unfolding moved_blocks
sound_moved n g h = sound_states _ (λ i l. live_jumps (block_jumps n) (lane_of g i) (live_lane h i l))

-- ---- what from_lanes and load accept
pub sound_lanes : (lanes : List Xoshiro256pp) → length lanes ≡ 8 → ((i : ℕ) → i < 8 → scalar.Words (state_of (get_or lanes i no_lane))) → (from_lanes lanes).refusal ≡ 0
    → Sound (from_lanes lanes).value
unfolding from_lanes of_lanes is_valid
sound_lanes lanes e w ok = go (every is_valid lanes) refl ok
  where
    answer : Bool → Answer Xoshiro256ppX8
    answer b = cond b (record { refusal = 0; value = of_lanes lanes }) (record { refusal = 3; value = blank8 })

    nonzero : (b : Bool) → T (not b) → b ≡ false
    nonzero true t = absurd t
    nonzero false t = refl

    go : (b : Bool) → every is_valid lanes ≡ b → (answer b).refusal ≡ 0 → Sound (answer b).value
    go true v z =
        sound_states _ (λ i l. record {
          words = w i l;
          nonzero = nonzero (all_zero (state_of (get_or lanes i no_lane))) (every_each is_valid no_lane lanes (subst T (sym v) tt) i (omega (arith, e)));
        })
    go false v z = absurd (omega (arith, z))

pub sound_loaded : (s : List ℕ) → Bytes s → (loaded s).refusal ≡ 0 → Sound (loaded s).value
unfolding lane_in
sound_loaded s b ok =
    let a = load-accepted s ok in
    rw a.holds (sound_states _ (λ i l. record {
      words = record { w0 = word i (omega arith); w1 = word (8 + i) (omega arith); w2 = word (16 + i) (omega arith); w3 = word (24 + i) (omega arith) };
      nonzero = a.valid i l;
    }))
  where
    word : (k : ℕ) → k < 32 → get_or (fields layout s) k 0 < 2 ^ 64
    word k h = rw (get_or-replicate {A = ℕ} 32 k 8 0 h) at (field_below layout 0 s b k)
