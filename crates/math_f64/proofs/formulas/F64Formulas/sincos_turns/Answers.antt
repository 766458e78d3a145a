use Rattle.std.proofs.Common.{ap}
use lib.Ieee.{Float}
use Rattle.math.specs.Lanes.{lane_of}
use Rattle.math.specs.declared.cos_sin.CosSin.{CosSin}
use Rattle.math_f64.proofs.formulas.F64Formulas.sincos_turns.Goals as goal

pub returns-clause-cosine : goal.returns-clause-cosine
unfolding lane_of
returns-clause-cosine c = ap (λ (l : CosSin Float). l.cos) c.lane.ensures

pub returns-clause-sine : goal.returns-clause-sine
unfolding lane_of
returns-clause-sine c = ap (λ (l : CosSin Float). l.sin) c.lane.ensures
