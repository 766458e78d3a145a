use Rattle.std.proofs.Common.{get_or}
use Rattle.base.proofs.Table.{Tabled}
use Rattle.math.proofs.lanes.products.Given as goal

abbrev pub invariant-loop-i : goal.invariant-loop-i
invariant-loop-i g l = let d = g.M.Formulas.blank in Tabled 8 (λ j. g.M.Formulas.product (get_or l.a j d) (get_or l.b j d)) d l.c l.i
