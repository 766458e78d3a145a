use Rattle.math.specs.Calls.{cos_sin_zeros, sincos_turns_call}
use Rattle.math.specs.Lanes.{turns_of}
use Rattle.math_f32.proofs.calls.sincos_turns_f32.Goals as goal

pub returns : goal.returns
unfolding sincos_turns_call turns_of
returns c = c.sincos_turns.ensures cos_sin_zeros
