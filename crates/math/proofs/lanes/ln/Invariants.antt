use Rattle.std.proofs.Common.{get_or}
use Rattle.base.proofs.Table.{Tabled}
use Rattle.math.proofs.lanes.ln.Given as goal

abbrev pub invariant-loop-i : goal.invariant-loop-i
invariant-loop-i g l = let d = g.M.Formulas.blank in Tabled 8 (λ j. g.M.Formulas.ln (get_or l.x j d)) d l.y l.i
