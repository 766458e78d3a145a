-- Stored lanes make a generator, a block and a move. Assumes nothing.
use Rattle.std.proofs.Common.{◌≡◌, ℕ, ◌+◌, ◌<◌, Bool, cond, List, sym, ap, ◌∙◌, add_comm, lt-ltb}
use Rattle.base.specs.Quad.{column, rows_of}
use Rattle.base.specs.Table.{table}
use Rattle.base.proofs.Table.{get_or-table, table-get_or}
use Rattle.base.proofs.Iterate.{iterate_add}
use Rattle.base.proofs.Quad.{rows_of-same}
use Rattle.xoshiro_steps.specs.Xoshiro256pp.{State, jumped, jumps, jump_poly}
use Rattle.xoshiro.specs.scalar.Seeded.{seeded}
use Rattle.xoshiro.specs.scalar.Calls.{state_of, generator, accepted, refused, jumps_made, seeded_by}
use Rattle.xoshiro.specs.declared.scalar.Xoshiro256pp.{Xoshiro256pp}
use Rattle.xoshiro.specs.x8.Claims.{Eights}
use Rattle.xoshiro.specs.x8.Lanes.{lane_of, of_rows, of_states}
use Rattle.xoshiro.specs.x8.Calls.{of_lanes, no_lane, lane_call, block_jumps, placed, moved_blocks}
use Rattle.xoshiro.specs.declared.x8.Xoshiro256ppX8.{Xoshiro256ppX8}
use Rattle.xoshiro.specs.declared.x8.Placed.{Placed}

states_same : (f g : ℕ → State) → ((i : ℕ) → i < 8 → f i ≡ g i) → of_states f ≡ of_states g
states_same f g h = ap of_rows (rows_of-same f g h)

pub of_lanes-table : (f : ℕ → State) → of_lanes (table 8 (λ i. generator (f i))) ≡ of_states f
unfolding of_lanes
of_lanes-table f = states_same _ f (λ i l. ap state_of (get_or-table 8 (λ j. generator (f j)) i no_lane l))

-- a generator is made of its lanes
pub own-lanes : (g : Xoshiro256ppX8) → Eights g → of_states (lane_of g) ≡ g
unfolding rows_of column
own-lanes g w =
    λ k. record {
      s0 = table-get_or 8 0 g.s0 w.row0 k;
      s1 = table-get_or 8 0 g.s1 w.row1 k;
      s2 = table-get_or 8 0 g.s2 w.row2 k;
      s3 = table-get_or 8 0 g.s3 w.row3 k;
    }

-- a block: lanes that are one jump apart, from the state after m jumps on
pub placed_by : (seed b : ℕ) {m : ℕ} {at : Xoshiro256pp} {lanes : List Xoshiro256pp} {g : Xoshiro256ppX8} → m ≡ block_jumps b → at ≡ jumps_made m (seeded_by seed)
    → lanes ≡ table 8 (λ i. jumps_made i at) → g ≡ of_lanes lanes → ◌≡◌ {A = Placed} (record { rng = g; jumps = m }) (placed seed b)
unfolding placed
placed_by seed b {m} {at} em ea el eg =
    λ k. record { rng = (eg ∙ ap of_lanes el ∙ of_lanes-table (λ i. jumps i (state_of at)) ∙ states_same _ _ (λ i l. total i)) k; jumps = em k }
  where
    total : (i : ℕ) → jumps i (state_of at) ≡ jumps (block_jumps b + i) (seeded seed)
    total i =
        ap (λ (x : Xoshiro256pp). jumps i (state_of x)) ea
        ∙ sym (iterate_add (jumped jump_poly) i m (seeded seed))
        ∙ ap (λ (n : ℕ). jumps n (seeded seed)) (add_comm i m ∙ ap (λ (n : ℕ). n + i) em)

-- a move: m jumps in each lane
pub moved_by : (n : ℕ) (g : Xoshiro256ppX8) {m : ℕ} {lanes : List Xoshiro256pp} {g' : Xoshiro256ppX8} → m ≡ block_jumps n
    → lanes ≡ table 8 (λ i. jumps_made m (generator (lane_of g i))) → g' ≡ of_lanes lanes → ◌≡◌ {A = Placed} (record { rng = g'; jumps = m }) (moved_blocks n g)
unfolding moved_blocks
moved_by n g {m} em el eg =
    (λ k. record { rng = (eg ∙ ap of_lanes el ∙ of_lanes-table (λ i. jumps m (lane_of g i))) k; jumps = m })
    ∙ ap (λ (x : ℕ). record { rng = of_states (λ i. jumps x (lane_of g i)); jumps = x }) em

-- a lane below 8
pub lane_accepted : (g : Xoshiro256ppX8) (i : ℕ) → i < 8 → lane_call g i ≡ accepted (generator (lane_of g i))
unfolding lane_call
lane_accepted g i h = ap (λ (b : Bool). cond b (accepted (generator (lane_of g i))) (refused 6)) (lt-ltb i 8 h)
