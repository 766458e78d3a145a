use Rattle.text.specs.hexfloat.Text.{widened}
use Rattle.text.proofs.hexfloat.put_float32.Goals as goal

pub returns : goal.returns
unfolding widened
returns c = rw (c.to_bits_f64.ensures, c.f32_to_f64_with_nan-x.ensures, c.from_bits_f32.ensures) at c.put_float.ensures
