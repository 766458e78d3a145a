-- The values of a fill's bytes as text, one to a line: integers in decimal, floats in C's exact hexadecimal notation.
use Rattle.std.specs.Prelude.{◌≡◌, ℕ, ◌+◌, ◌*◌, ◌/◌, ◌≤◌, Bool, cond, ◌&&◌, List, [], ◌∷◌, ◌++◌, length, take, drop, ◌==◌, nat_le}
use Rattle.base.specs.Bytes.{le_nat, flat}
use Rattle.base.specs.Table.{table}
use Rattle.text.specs.decimal.Decimal.{decimal}
use Rattle.fills.specs.FillBytes.{elements, refusal_of}
use Rattle.fills.specs.Kinds.{kind_at}
use Rattle.text.specs.hexfloat.Text.{hex_text, widened}

-- the text of the element of kind k with the bits b: kinds 1 and 2 are integers, the others floats of 4 or 8 bytes
unfoldable pub text_of : (k b : ℕ) → List ℕ
text_of k b = cond (nat_le k 2) (decimal b) (cond ((kind_at k).kind.width == 4) (hex_text (widened b)) (hex_text b))

-- a text and a newline
unfoldable pub line : (k b : ℕ) → List ℕ
line k b = text_of k b ++ (10 ∷ [])

-- element i of bytes of which w make an element, the lowest first
abbrev pub value_at : (w : ℕ) → List ℕ → ℕ → ℕ
value_at w raw i = le_nat (take w (drop (i * w) raw))

-- all elements that the bytes hold
abbrev pub values_in : (w : ℕ) → List ℕ → List ℕ
values_in w raw = table (length raw / w) (value_at w raw)

-- the lines of the elements of kind k in bytes
unfoldable pub lines_of : (k : ℕ) → List ℕ → List ℕ
lines_of k raw = flat (line k) (values_in (kind_at k).kind.width raw)

-- kind k's fill of n bytes is not refused, and size bytes are room for its lines: none is longer than 25 bytes
unfoldable pub accepted : (k n size : ℕ) → Bool
accepted k n size = refusal_of k n == 0 && nat_le (25 * elements k n) size

-- the first of a fill's draws and the first behind them, as one line: first, a blank, first + draws
unfoldable pub ends_of : (first draws : ℕ) → List ℕ
ends_of first draws = decimal first ++ (32 ∷ (decimal (first + draws) ++ (10 ∷ [])))

-- n counts bytes at the start of xs. The second part follows from the first. Both are stated so that a caller's `&xs[..n]` needs no proof.
abbrev pub Counts : ℕ → List ℕ → Type 0
Counts n xs = (n ≤ length xs) × (n ≡ length (take n xs))
