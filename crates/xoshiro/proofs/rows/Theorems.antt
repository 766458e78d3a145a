-- The claim of specs/rows/Claims.antt. Assumes nothing.
use Rattle.base.specs.Quad.{column}
use Rattle.base.proofs.Table.{get_or-table}
use Rattle.base.proofs.Quad.{column-rows_of}
use Rattle.xoshiro_steps.specs.Xoshiro256pp.{output, step}
use Rattle.xoshiro.specs.rows.Lanes.{outputs, stepped}
use Rattle.xoshiro.specs.rows.Claims.{LanesStep}

pub lanes_step : LanesStep
unfolding outputs stepped
lanes_step rows i h = (column-rows_of (λ j. step (column rows j)) i h, get_or-table 8 (λ j. output (column rows j)) i 0 h)
