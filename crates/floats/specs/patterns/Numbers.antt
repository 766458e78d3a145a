-- Numbers of a format, in IEEE 754's words. `round f s num den` (lib.Ieee) is the value of the format f that is nearest to
-- num / den, ties to even, with the sign s; `fin s m e` is m * 2 ^ e, negative where s is true.
use Rattle.std.specs.Prelude.{true, false, ℕ, ◌-◌, ◌^◌, pos, negsuc, Float}
use Rattle.std.specs.Float.{Format, binary32, binary64, fin}
use Rattle.std.specs.Float.Ieee.{round}

-- the decimal literals n / 10 ^ d and - n / 10 ^ d, rounded once: `lit binary32 70376836 9` is the Rust's 7.037_683_6e-2_f32
abbrev pub lit : Format → ℕ → ℕ → Float
lit f n d = round f false n (10 ^ d)

abbrev pub minus_lit : Format → ℕ → ℕ → Float
minus_lit f n d = round f true n (10 ^ d)

abbrev pub zero : Float
zero = fin false 0 (pos 0)

abbrev pub one : Float
one = fin false 1 (pos 0)

-- the least positive normal number, 2 ^ -126 or 2 ^ -1022: below it values are subnormal
abbrev pub least : Format → Float
least binary32 = fin false 1 (negsuc 125)
least binary64 = fin false 1 (negsuc 1021)

-- the largest number
abbrev pub most : Format → Float
most binary32 = fin false (2 ^ 24 - 1) (pos 104)
most binary64 = fin false (2 ^ 53 - 1) (pos 971)
