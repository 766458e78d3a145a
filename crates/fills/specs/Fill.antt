-- What a fill of any kind promises, on any engine (Rng8 of the Rust's lib.rs; the scope document, "Unit floats and fills").
use Rattle.std.specs.Prelude.{List, ◌≡◌, ℕ, ◌+◌, ◌-◌, ◌*◌, ◌/◌, ◌%◌, length, get_or}
use Rattle.base.specs.Engine.{Engine, words_from}
use Rattle.base.specs.Iterate.{iterate}
use Rattle.base.specs.Table.{table}

-- A kind of fill. A group has `places` places and takes `draws` draws; `group` gives its elements from the words of its draws, draw 0
-- of the group first. An element has `width` bytes, which hold its `bits`; `blank` has zero bits.
pub record Kind (A : Type 0) : Type 0 where
  pub places : ℕ
  pub draws : ℕ
  pub group : (ℕ → List ℕ) → List A
  pub width : ℕ
  pub bits : A → ℕ
  pub blank : A

-- n / w rounded up
abbrev pub round_up : ℕ → ℕ → ℕ
round_up n w = (n + (w - 1)) / w

-- the draws for n places: what a last group has over is dropped
abbrev pub draws_for : {A : Type 0} → Kind A → ℕ → ℕ
draws_for K n = K.draws * round_up n K.places

-- element k of a fill whose draw m, counted from 0, hands out `words m`: place k mod places of group k / places
abbrev pub element : {A : Type 0} → Kind A → (ℕ → List ℕ) → ℕ → A
element K words k = get_or (K.group (λ m. words (K.draws * (k / K.places) + m))) (k % K.places) K.blank

-- A fill that was handed the generator g and the slice `before`, and left the slice `after` and handed back `draws` and g': each place
-- holds its element, the draws are the table's, and the generator is that many draws on.
pub record Filled {G A : Type 0} (E : Engine G) (K : Kind A) (g : G) (before after : List A) (draws : ℕ) (g' : G) : Type 0 where
  pub writes : after ≡ table (length before) (element K (words_from E g))
  pub count : draws ≡ draws_for K (length before)
  pub state : g' ≡ iterate E.next draws g
