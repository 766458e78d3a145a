-- The cosine and the sine of one turn and of eight, and the Box-Muller transform of eight pairs, as the declared record.
use Rattle.std.specs.Prelude.{List, map, Float}
use Rattle.std.specs.Float.{Format}
use Rattle.base.specs.Zip.{zip_with}
use Rattle.math.specs.BoxMuller.{cos_half, sin_half}
use Rattle.math.specs.Turns.{sin_turns, cos_turns}
use Rattle.math.specs.declared.cos_sin.CosSin.{CosSin}

unfoldable pub lane_of : Format → Float → CosSin Float
lane_of f t = record { cos = cos_turns f t; sin = sin_turns f t }

unfoldable pub turns_of : Format → List Float → CosSin (List Float)
turns_of f t = record { cos = map (cos_turns f) t; sin = map (sin_turns f) t }

unfoldable pub halves_of : Format → List Float → List Float → CosSin (List Float)
halves_of f u1 u2 = record { cos = zip_with (cos_half f) u1 u2; sin = zip_with (sin_half f) u1 u2 }
