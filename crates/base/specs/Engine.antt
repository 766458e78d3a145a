-- An engine of random words, and what its draws hand out.
use Rattle.std.specs.Prelude.{List, ◌≡◌, ℕ, ◌+◌, ◌*◌, ◌/◌, ◌%◌, get_or}
use Rattle.base.specs.Iterate.{iterate}
use Rattle.base.specs.Stored.{stored}
use Rattle.base.specs.Table.{table}

-- with generators of type G: the eight words that a draw hands out, and the generator after it
pub record Engine (G : Type 0) : Type 0 where
  pub words : G → List ℕ
  pub next : G → G

-- the words of draw m from the generator g on, counted from 0
abbrev pub words_from : {G : Type 0} → Engine G → G → ℕ → List ℕ
words_from E g m = E.words (iterate E.next m g)

-- the words of m draws, one after another
unfoldable pub drawn_words : {G : Type 0} → Engine G → ℕ → G → List ℕ
drawn_words E m g = table (m * 8) (λ k. get_or (words_from E g (k / 8)) (k % 8) 0)

-- m draws from g on, their words stored in `before` from at on; g' is the generator after the draws
pub record DrawnAt {G : Type 0} (E : Engine G) (g : G) (at m : ℕ) (before after : List ℕ) (draws : ℕ) (g' : G) : Type 0 where
  pub writes : after ≡ stored before at (drawn_words E m g)
  pub count : draws ≡ m
  pub state : g' ≡ iterate E.next m g

-- draw i of a buffer of words: eight of them
unfoldable pub draw_of : List ℕ → ℕ → List ℕ
draw_of b i = table 8 (λ r. get_or b (i * 8 + r) 0)
