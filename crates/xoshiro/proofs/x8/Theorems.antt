-- The claims of specs/x8/Claims.antt. Assumes nothing.
use Rattle.std.proofs.Common.{◌≡◌, ℕ, zero, suc, ◌<◌, Bool, true, false, cond, List, get_or, refl, ap, ◌∙◌, arith}
use Rattle.base.specs.Iterate.{iterate}
use Rattle.base.specs.Table.{table}
use Rattle.base.specs.Every.{every}
use Rattle.base.specs.Quad.{column, rows_of}
use Rattle.base.specs.Refusal.{Answer}
use Rattle.base.proofs.Quad.{column-rows_of, list_four}
use Rattle.xoshiro_steps.specs.Xoshiro256pp.{State, step}
use Rattle.xoshiro.specs.scalar.Calls.{state_of, generator, accepted}
use Rattle.xoshiro.specs.declared.scalar.Xoshiro256pp.{Xoshiro256pp}
use Rattle.xoshiro.specs.rows.Lanes.{outputs}
use Rattle.xoshiro.proofs.rows.Theorems.{lanes_step as rows_step}
use Rattle.xoshiro.specs.x8.Lanes.{rows_in, lane_of, of_states}
use Rattle.xoshiro.specs.x8.Calls.{words_of, next_of, drawn, placed, moved_blocks, is_valid, of_lanes, from_lanes, blank8, no_lane}
use Rattle.xoshiro.specs.x8.Claims.{LanesStep, LanesSkip, LanesStart, LanesMove, NothingMoves, LanesBack, EightWords}
use Rattle.xoshiro.specs.declared.x8.Xoshiro256ppX8.{Xoshiro256ppX8}
use Rattle.xoshiro.proofs.x8.Lanes.{lane_accepted, own-lanes}

-- lane i of the generator whose lanes are f
lane_of_states : (f : ℕ → State) (i : ℕ) → i < 8 → lane_of (of_states f) i ≡ f i
unfolding rows_of
lane_of_states f i h = column-rows_of f i h

pub lanes_step : LanesStep
unfolding drawn words_of next_of column
lanes_step g i h = rows_step (rows_in g) i h

pub lanes-skip : LanesSkip
unfolding iterate drawn
lanes-skip zero g i h = refl
lanes-skip (suc n) g i h = (lanes_step (iterate next_of n g) i h).0 ∙ ap step (lanes-skip n g i h)

pub lanes_start : LanesStart
unfolding placed
lanes_start seed b i h = lane_of_states _ i h

pub lanes-move : LanesMove
unfolding moved_blocks
lanes-move n g i h = lane_of_states _ i h

pub nothing_moves : NothingMoves
unfolding moved_blocks iterate
nothing_moves g w = λ k. record { rng = own-lanes g w k; jumps = 0 }

-- an answer without a refusal number holds the lanes
abbrev answer : Bool → List Xoshiro256pp → Answer Xoshiro256ppX8
answer b lanes = cond b (record { refusal = 0; value = of_lanes lanes }) (record { refusal = 3; value = blank8 })

answered : (b : Bool) (lanes : List Xoshiro256pp) → (answer b lanes).refusal ≡ 0 → (answer b lanes).value ≡ of_lanes lanes
answered true lanes h = refl
answered false lanes h = absurd (omega arith)

pub lanes_back : LanesBack
unfolding from_lanes of_lanes
lanes_back lanes i h four ok =
    lane_accepted (from_lanes lanes).value i h
    ∙ ap (λ (g : Xoshiro256ppX8). accepted (generator (lane_of g i))) (answered (every is_valid lanes) lanes ok)
    ∙ ap (λ (s : State). accepted (generator s)) (lane_of_states (λ j. state_of (get_or lanes j no_lane)) i h)
    ∙ ap (λ (l : List ℕ). accepted (record { s = l })) (list_four 0 (get_or lanes i no_lane).s four)

pub eight-words : EightWords
unfolding words_of outputs table
eight-words g = refl
