use Rattle.math.specs.BoxMuller.{radius, cos_half, sin_half}
use Rattle.math.specs.Calls.{cos_sin_zeros, box_muller_call}
use Rattle.math.specs.Lanes.{halves_of}
use Rattle.math_f32.proofs.calls.box_muller_f32.Goals as goal

pub returns : goal.returns
unfolding box_muller_call halves_of cos_half sin_half radius
returns c = c.box_muller.ensures cos_sin_zeros
