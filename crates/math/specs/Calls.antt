-- What the calls on eight lanes answer: 0 and the values if every argument is in the call's domain, else the refusal's number and zeros.
use Rattle.std.specs.Prelude.{ℕ, Bool, cond, ◌&&◌, List, map, replicate, Float}
use Rattle.std.specs.Float.{Format}
use Rattle.base.specs.Every.{every}
use Rattle.base.specs.Refusal.{Answer}
use Rattle.floats.specs.patterns.Domains.{positive_normal, in_reach, has_root, is_u1, is_u2}
use Rattle.floats.specs.patterns.Numbers as numbers
use Rattle.math.specs.Lanes.{turns_of, halves_of}
use Rattle.math.specs.Ln.{ln}
use Rattle.math.specs.Sqrt.{sqrt}
use Rattle.math.specs.declared.cos_sin.CosSin.{CosSin}

abbrev pub zeros : List Float
zeros = replicate 8 numbers.zero

abbrev pub cos_sin_zeros : CosSin (List Float)
cos_sin_zeros = record { cos = zeros; sin = zeros }

abbrev pub answer : {V : Type 0} → V → Bool → ℕ → V → Answer V
answer blank ok number value = cond ok (record { refusal = 0; value = value }) (record { refusal = number; value = blank })

unfoldable pub ln_call : Format → List Float → Answer (List Float)
ln_call f x = answer zeros (every (positive_normal f) x) 7 (map (ln f) x)

unfoldable pub sincos_turns_call : Format → List Float → Answer (CosSin (List Float))
sincos_turns_call f t = answer cos_sin_zeros (every (in_reach f) t) 8 (turns_of f t)

unfoldable pub sqrt_call : Format → List Float → Answer (List Float)
sqrt_call f x = answer zeros (every (has_root f) x) 9 (map (sqrt f) x)

unfoldable pub box_muller_call : Format → List Float → List Float → Answer (CosSin (List Float))
box_muller_call f u1 u2 = answer cos_sin_zeros (every (is_u1 f) u1 && every is_u2 u2) 10 (halves_of f u1 u2)
