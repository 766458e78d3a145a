-- Where the eight lanes stand: after j + i jumps and then d steps from the seed's state. Assumes nothing.
use mathlib.Core.Path.{◌≡◌, sym, ap, ◌∙◌}
use Prim.Native.Nat.{ℕ, ◌+◌, ◌<◌}
use native.Mathlib.Omega.{arith}
use lib.ListN.{get_or}
use Rattle.base.specs.Iterate.{iterate}
use Rattle.base.proofs.Iterate.{iterate-then}
use Rattle.base.proofs.Table.{table_same, table-get_or}
use Rattle.xoshiro_steps.specs.Xoshiro256pp.{State, output, step, steps, jumped, jump_poly, jumps}
use Rattle.xoshiro_steps.proofs.Theorems.{steps_commute}
use Rattle.xoshiro.specs.x8.Calls.{words_of, next_of, block_jumps, moved_blocks}
use Rattle.xoshiro.specs.x8.Lanes.{lane_of}
use Rattle.xoshiro.specs.declared.x8.Xoshiro256ppX8.{Xoshiro256ppX8}
use Rattle.xoshiro.proofs.x8.Draws.{word-at}
use Rattle.xoshiro.proofs.x8.Theorems.{lanes-skip, lanes-move, eight-words}
use Rattle.history.specs.xoshiro256pp.History.{words_at}

pub record At (s : State) (d j : ℕ) (g : Xoshiro256ppX8) : Type 0 where
  pub lane : (i : ℕ) → i < 8 → lane_of g i ≡ steps d (jumps (j + i) s)

pub at_same : {s : State} {d d' j j' : ℕ} {g g' : Xoshiro256ppX8} → At s d j g → d ≡ d' → j ≡ j' → g' ≡ g → At s d' j' g'
at_same a ed ej eg = rw (eg, ← ed, ← ej) a

-- ---- draws are steps of every lane
pub at-draws : (m : ℕ) {s : State} {d j : ℕ} {g : Xoshiro256ppX8} → At s d j g → At s (d + m) j (iterate next_of m g)
at-draws m {s} {d} {j} {g} a =
    record { lane = λ i h. lanes-skip m g i h ∙ ap (steps m) (a.lane i h) ∙ sym (iterate-then step d m (jumps (j + i) s)) }

-- ---- a block move is so many jumps of every lane, and jumps go past steps
pub at-move : (n : ℕ) {s : State} {d j : ℕ} {g : Xoshiro256ppX8} → At s d j g → At s d (j + block_jumps n) (moved_blocks n g).rng
at-move n {s} {d} {j} {g} a =
    record { lane = λ i h. lanes-move n g i h ∙ ap (jumps (block_jumps n)) (a.lane i h) ∙ past (block_jumps n) i }
  where
    past : (b i : ℕ) → jumps b (steps d (jumps (j + i) s)) ≡ steps d (jumps (j + b + i) s)
    past b i =
        let e : j + i + b ≡ j + b + i = omega arith in
        steps_commute jump_poly b d (jumps (j + i) s)
        ∙ ap (steps d) (sym (iterate-then (jumped jump_poly) (j + i) b s) ∙ ap (λ (k : ℕ). jumps k s) e)

-- ---- the words of a draw are the lanes' outputs
pub words-at : {s : State} {d j : ℕ} {g : Xoshiro256ppX8} → At s d j g → words_of g ≡ words_at s d j
unfolding words_at
words-at {s} {d} {j} {g} a =
    sym (table-get_or 8 0 (words_of g) (eight-words g))
    ∙ table_same 8 (λ i. get_or (words_of g) i 0) (λ i. output (steps d (jumps (j + i) s))) (λ i h. word-at g i h ∙ ap output (a.lane i h))
