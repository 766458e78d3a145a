-- What is claimed of the lines. Each claim is proved in proofs/lines/Theorems.antt.
use Rattle.std.specs.Prelude.{◌≡◌, ℕ, ◌%◌, ◌^◌, ◌<◌, ◌≤◌, List, ◌++◌, length, slice_index}
use Rattle.base.specs.Bytes.{le_bytes, flat}
use Rattle.fills.specs.Kinds.{kind_at}
use Rattle.text.specs.lines.Lines.{line, lines_of}

-- the lines of bytes in two parts, of which the first holds whole elements, are the lines of the parts
abbrev pub LinesAppend : Type 0
LinesAppend = (k : ℕ) (a b : List ℕ) → length a % (kind_at k).kind.width ≡ 0 → lines_of k (a ++ b) ≡ lines_of k a ++ lines_of k b

-- the lines of elements' bytes are the elements' lines
abbrev pub LinesOfElements : Type 0
LinesOfElements = (k : ℕ) (xs : List ℕ) → ((i : ℕ) → slice_index xs i < 256 ^ (kind_at k).kind.width) → lines_of k (flat (le_bytes (kind_at k).kind.width) xs) ≡ flat (line k) xs

-- a line has 25 bytes at most
abbrev pub AtMost25 : Type 0
AtMost25 = (k b : ℕ) → b < 2 ^ 64 → length (line k b) ≤ 25
