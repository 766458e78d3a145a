-- Rows of eight words, word by word.
use Rattle.std.specs.Prelude.{ℕ, ◌+◌, ◌%◌, ◌^◌, List, bit_xor, slice_index}
use Rattle.base.specs.Table.{table}
use Rattle.words.specs.Words.{shl, rotl}

unfoldable pub sums : List ℕ → List ℕ → List ℕ
sums a b = table 8 (λ i. (slice_index a i + slice_index b i) % 2 ^ 64)

unfoldable pub xors : List ℕ → List ℕ → List ℕ
xors a b = table 8 (λ i. bit_xor (slice_index a i) (slice_index b i))

unfoldable pub shls : ℕ → List ℕ → List ℕ
shls k a = table 8 (λ i. shl k (slice_index a i))

unfoldable pub rotls : ℕ → List ℕ → List ℕ
rotls k a = table 8 (λ i. rotl k (slice_index a i))
