-- A fill of bytes: the little-endian bytes of the fill of a kind, or a refusal that changes nothing (the scope document, "What the calls
-- refuse", 4 and 5).
use Rattle.std.specs.Prelude.{cond, List, ◌≡◌, ℕ, ◌/◌, ◌%◌, eqb, length}
use Rattle.base.specs.Refused.{unless}
use Rattle.base.specs.Engine.{Engine, words_from}
use Rattle.base.specs.Bytes.{le_bytes, flat}
use Rattle.base.specs.Iterate.{iterate}
use Rattle.base.specs.Table.{table}
use Rattle.fills.specs.Fill.{Kind, draws_for, element}
use Rattle.fills.specs.Kinds.{kind_at, is_kind}

-- the bytes of an element, and of elements one after another
abbrev pub bytes_of : {A : Type 0} → Kind A → A → List ℕ
bytes_of K x = le_bytes K.width (K.bits x)

-- the number of the refusal of kind k for n bytes, 0 if there is none: 4 if no row of the table is k, 5 if n isn't a multiple of the width
unfoldable pub refusal_of : ℕ → ℕ → ℕ
refusal_of k n = cond (is_kind k) (cond (eqb (n % (kind_at k).kind.width) 0) 0 5) 4

-- the elements that n bytes hold; their bytes, and their draws
abbrev pub elements : ℕ → ℕ → ℕ
elements k n = n / (kind_at k).kind.width

unfoldable pub bytes_written : ℕ → (ℕ → List ℕ) → ℕ → List ℕ
bytes_written k words n = flat (bytes_of (kind_at k).kind) (table (elements k n) (element (kind_at k).kind words))

unfoldable pub bytes_draws : ℕ → ℕ → ℕ
bytes_draws k n = draws_for (kind_at k).kind (elements k n)

-- A fill of bytes by the number k of a kind: where it isn't refused, the slice holds the bytes of the typed fill and the draws are that
-- fill's; where it is, the slice is as it was and there are no draws, so that the generator is as it was.
pub record FilledBytes {G : Type 0} (E : Engine G) (k : ℕ) (g : G) (before after : List ℕ) (refusal draws : ℕ) (g' : G) : Type 0 where
  pub refuses : refusal ≡ refusal_of k (length before)
  pub writes : after ≡ unless refusal (bytes_written k (words_from E g) (length before)) before
  pub count : draws ≡ unless refusal (bytes_draws k (length before)) 0
  pub state : g' ≡ iterate E.next draws g
