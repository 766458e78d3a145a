use Rattle.math.specs.BoxMuller.{radius, cos_half, sin_half}
use Rattle.math.specs.Lanes.{halves_of}
use Rattle.math_f64.proofs.box_muller.lanes.Goals as goal

pub returns : goal.returns
unfolding halves_of cos_half sin_half radius
returns c = let e = c.box_muller.ensures in λ i. record { cos = e.cosines i; sin = e.sines i }
