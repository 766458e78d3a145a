use Rattle.std.proofs.Common.{sym, ap, ◌∙◌}
use Rattle.xoshiro.specs.x8.Calls.{from_lanes}
use Rattle.xoshiro.specs.declared.x8.Xoshiro256ppX8.{Xoshiro256ppX8}
use Rattle.xoshiro.proofs.x8.Xoshiro256ppX8.from_lanes.Goals as goal

pub returns-then-all_valid : goal.returns-then-all_valid
unfolding from_lanes
returns-then-all_valid c =
    simp (sym c.all_valid.ensures ∙ c.if-all_valid.true) (ap (λ (g : Xoshiro256ppX8). record { refusal = 0; value = g }) c.of_lanes.ensures)

pub returns : goal.returns
unfolding from_lanes
returns c = simp (sym c.all_valid.ensures ∙ c.if-all_valid.false)
