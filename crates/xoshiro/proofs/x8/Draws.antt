-- Draws are steps of every lane. Assumes nothing.
use Rattle.std.proofs.Common.{◌≡◌, ℕ, ◌<◌, List, get_or, sym, ap, ◌∙◌}
use Rattle.base.specs.Quad.{rows_of}
use Rattle.base.specs.Table.{table}
use Rattle.base.proofs.Iterate.{iterate_keeps}
use Rattle.base.proofs.Quad.{rows_of-same}
use Rattle.base.proofs.Table.{length-table}
use Rattle.xoshiro_steps.specs.Xoshiro256pp.{output, steps}
use Rattle.xoshiro.specs.scalar.Calls.{generator, steps_made}
use Rattle.xoshiro.specs.declared.scalar.Xoshiro256pp.{Xoshiro256pp}
use Rattle.xoshiro.specs.rows.Lanes.{stepped}
use Rattle.xoshiro.specs.x8.Calls.{words_of, next_of, drawn, skipped, of_lanes}
use Rattle.xoshiro.specs.x8.Claims.{Eights}
use Rattle.xoshiro.specs.x8.Lanes.{lane_of, of_rows}
use Rattle.xoshiro.specs.declared.x8.Xoshiro256ppX8.{Xoshiro256ppX8}
use Rattle.xoshiro.proofs.x8.Lanes.{of_lanes-table, own-lanes}
use Rattle.xoshiro.proofs.x8.Theorems.{lanes_step, lanes-skip}

-- the words of a draw are the lanes' outputs
pub word-at : (g : Xoshiro256ppX8) (i : ℕ) → i < 8 → get_or (words_of g) i 0 ≡ output (lane_of g i)
unfolding drawn
word-at g i h = (lanes_step g i h).1

-- ---- rows of eight words stay so
eights-next : (g : Xoshiro256ppX8) → Eights (next_of g)
unfolding next_of stepped rows_of
eights-next g = record { row0 = length-table 8 _; row1 = length-table 8 _; row2 = length-table 8 _; row3 = length-table 8 _ }

-- n draws: n steps of each lane
pub skipped_by : (n : ℕ) (g : Xoshiro256ppX8) → Eights g → {lanes : List Xoshiro256pp} {g' : Xoshiro256ppX8}
    → lanes ≡ table 8 (λ i. steps_made n (generator (lane_of g i))) → g' ≡ of_lanes lanes → g' ≡ skipped n g
skipped_by n g w el eg =
    eg ∙ ap of_lanes el ∙ of_lanes-table (λ i. steps n (lane_of g i))
    ∙ ap of_rows (sym (rows_of-same (lane_of (skipped n g)) (λ i. steps n (lane_of g i)) (lanes-skip n g)))
    ∙ own-lanes (skipped n g) (iterate_keeps Eights next_of (λ x h. eights-next x) n g w)
