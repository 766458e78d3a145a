-- The Box-Muller transform of math.rs, one lane. Each operation is rounded once, in the Rust's order.
use Rattle.std.specs.Prelude.{Float}
use Rattle.std.specs.Float.{Format}
use Rattle.std.specs.Float.Ieee.{mul}
use Rattle.floats.specs.patterns.Numbers.{minus_lit}
use Rattle.math.specs.Ln.{ln}
use Rattle.math.specs.Sqrt.{sqrt}
use Rattle.math.specs.Turns.{sin_turns, cos_turns}

unfoldable pub minus_twice : Format → Float → Float
minus_twice f x = mul f x (minus_lit f 2 0)

unfoldable pub radius : Format → Float → Float
radius f u1 = sqrt f (minus_twice f (ln f u1))

-- the cosine half and the sine half
unfoldable pub cos_half : Format → Float → Float → Float
cos_half f u1 u2 = mul f (radius f u1) (cos_turns f u2)

unfoldable pub sin_half : Format → Float → Float → Float
sin_half f u1 u2 = mul f (radius f u1) (sin_turns f u2)
