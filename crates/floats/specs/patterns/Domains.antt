-- Which floats the calls on eight lanes accept. A NaN fails every comparison.
use Rattle.std.specs.Prelude.{Bool, true, false, ◌&&◌, ◌||◌, ℕ, pos, Float}
use Rattle.std.specs.Float.{Format, binary32, binary64, fin}
use Rattle.std.specs.Float.Ieee.{lt, le, eq}
use Rattle.floats.specs.patterns.Numbers as numbers
use Rattle.floats.specs.patterns.Numbers.{one, least, most}

-- ln: a positive normal
unfoldable pub positive_normal : Format → Float → Bool
positive_normal f x = le (least f) x && le x (most f)

-- sincos_turns: a magnitude below 2 ^ 20, or 2 ^ 40
abbrev pub reach : Format → ℕ
reach binary32 = 20
reach binary64 = 40

unfoldable pub in_reach : Format → Float → Bool
in_reach f t = lt (fin true 1 (pos (reach f))) t && lt t (fin false 1 (pos (reach f)))

-- sqrt: a zero of either sign, -0.0 being equal to 0.0, or a positive normal
unfoldable pub has_root : Format → Float → Bool
has_root f x = eq x numbers.zero || positive_normal f x

-- Box-Muller's u1: normal in (0, 1]
unfoldable pub is_u1 : Format → Float → Bool
is_u1 f u = positive_normal f u && le u one

-- Box-Muller's u2: in [0, 1), -0.0 being equal to 0.0
unfoldable pub is_u2 : Float → Bool
is_u2 u = le numbers.zero u && lt u one
