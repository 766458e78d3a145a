-- How the loops of `lanes` share the work, no part of what they promise.
use Rattle.std.specs.Prelude.{ℕ, List, slice_index_or, Float}
use Rattle.std.specs.Float.{binary64, nan}
use Rattle.std.specs.Float.Ieee.{mul}
use Rattle.math_f64.specs.sincos_turns.Lanes.{sin_end, cos_end, turned_of}
use Rattle.math.specs.declared.cos_sin.CosSin.{CosSin}

-- lane i of an array
abbrev pub at : List Float → ℕ → Float
at l i = slice_index_or l i nan

-- the cosine and the sine of the turn t, from the polynomials s and c of its angle th as far as they were begun
abbrev pub ended : Float → Float → Float → Float → CosSin Float
ended t th s c = turned_of t (sin_end th s) (cos_end th c)

-- the halves of the transform, with the radius r
abbrev pub cos_last : Float → Float → Float → Float → Float → Float
cos_last r t th s c = mul binary64 r (ended t th s c).cos

abbrev pub sin_last : Float → Float → Float → Float → Float → Float
sin_last r t th s c = mul binary64 r (ended t th s c).sin
