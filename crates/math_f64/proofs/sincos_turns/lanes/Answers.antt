use Rattle.math.specs.Lanes.{turns_of}
use Rattle.math_f64.proofs.sincos_turns.lanes.Goals as goal

pub returns : goal.returns
unfolding turns_of
returns c = let e = c.sincos_turns.ensures in λ i. record { cos = e.cosines i; sin = e.sines i }
