-- What the promise of many draws at once says by the words that the draws hand out. Assumes nothing.
use mathlib.Core.List.{List}
use mathlib.Core.Path.{◌≡◌, ap, ◌∙◌, fun_ext}
use Prim.Native.Nat.{ℕ, ◌*◌, ◌/◌, ◌%◌}
use lib.ListN.{get_or}
use Rattle.base.specs.Engine.{Engine, words_from, drawn_words, DrawnAt}
use Rattle.base.specs.Stored.{stored}
use Rattle.base.specs.Table.{table}
use Rattle.history.specs.Draws.{RightDraws}

pub right_draws : {G : Type 0} {E : Engine G} {g g' : G} {at m : ℕ} {before after : List ℕ} {draws : ℕ} (W : ℕ → List ℕ)
    → ((i : ℕ) → words_from E g i ≡ W i) → DrawnAt E g at m before after draws g' → RightDraws W at m before after draws
unfolding drawn_words
right_draws {at = at} {m = m} {before = before} W e h =
    record {
      writes = h.writes ∙ ap (λ (X : ℕ → List ℕ). stored before at (table (m * 8) (λ k. get_or (X (k / 8)) (k % 8) 0))) (fun_ext e);
      count = h.count;
    }
