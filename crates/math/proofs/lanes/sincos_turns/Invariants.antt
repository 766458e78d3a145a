use Rattle.std.proofs.Common.{get_or}
use Rattle.base.proofs.Table.{Tabled}
use Rattle.math.proofs.lanes.sincos_turns.Given as goal

abbrev pub invariant-loop-i : goal.invariant-loop-i
invariant-loop-i g l =
    let d = g.M.Formulas.blank in
    Tabled 8 (λ j. g.M.Formulas.cos_turns (get_or l.t j d)) d l.cos l.i × Tabled 8 (λ j. g.M.Formulas.sin_turns (get_or l.t j d)) d l.sin l.i
