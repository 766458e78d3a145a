-- A draw by whether words wait, and the parts that a draw is made of. Assumes nothing.
use Rattle.std.proofs.Common.{◌≡◌, ℕ, ◌+◌, ◌-◌, ◌*◌, ◌/◌, ◌%◌, ◌^◌, ◌<◌, Bool, true, false, cond, List, length, get_or, sym, ap, ◌∙◌, ap₂, arith}
use Rattle.base.specs.Table.{table}
use Rattle.base.specs.Quad.{Quad}
use Rattle.base.proofs.Table.{table_same, table-get_or, get_or-table}
use Rattle.philox.specs.block.Philox.{group_of}
use Rattle.philox.specs.declared.block.Group.{Group}
use Rattle.philox.specs.x8.Machine.{join_of, block_at, group_at, lower_at, upper_at, sought}
use Rattle.philox.specs.x8.Machine.{holding, past, words_of, next_of, label_of, drawn, left_of}
use Rattle.philox.specs.declared.x8.Philox4x32X8.{Philox4x32X8}
use Rattle.philox.specs.declared.x8.Draw.{Draw}

-- a group's rows, joined two by two
joined : (f : ℕ → Quad) (lo hi : Quad → ℕ) → join_of (table 8 (λ i. lo (f i))) (table 8 (λ i. hi (f i))) ≡ table 8 (λ i. lo (f i) + 2 ^ 32 * hi (f i))
unfolding join_of
joined f lo hi =
    table_same 8 _ _ (λ i h. ap₂ (λ (x y : ℕ). x + 2 ^ 32 * y) (get_or-table 8 (λ j. lo (f j)) i 0 h) (get_or-table 8 (λ j. hi (f j)) i 0 h))

lower_joined : (g : Philox4x32X8) (n : ℕ) → join_of (group_at g n).w0 (group_at g n).w1 ≡ lower_at g n
unfolding lower_at group_of
lower_joined g n = joined (λ i. block_at g (n + i)) (λ q. q.w0) (λ q. q.w1)

upper_joined : (g : Philox4x32X8) (n : ℕ) → join_of (group_at g n).w2 (group_at g n).w3 ≡ upper_at g n
unfolding upper_at group_of
upper_joined g n = joined (λ i. block_at g (n + i)) (λ q. q.w2) (λ q. q.w3)

-- ---- where words wait
pub words_waiting : (g : Philox4x32X8) → g.waiting ≡ true → length g.pending ≡ 8 → words_of g ≡ g.pending
unfolding words_of
words_waiting g e l = ap (λ (b : Bool). cond b (table 8 (λ i. get_or g.pending i 0)) (lower_at g g.counter)) e ∙ table-get_or 8 0 g.pending l

pub next_waiting : (g : Philox4x32X8) → g.waiting ≡ true → next_of g ≡ sought g g.counter
unfolding next_of
next_waiting g e = ap (λ (b : Bool). cond b (sought g g.counter) (holding g (past g.counter) g.counter)) e

-- ---- and where none wait
pub words-fresh : (g : Philox4x32X8) → g.waiting ≡ false → words_of g ≡ lower_at g g.counter
unfolding words_of
words-fresh g e = ap (λ (b : Bool). cond b (table 8 (λ i. get_or g.pending i 0)) (lower_at g g.counter)) e

pub next-fresh : (g : Philox4x32X8) → g.waiting ≡ false → next_of g ≡ holding g (past g.counter) g.counter
unfolding next_of
next-fresh g e = ap (λ (b : Bool). cond b (sought g g.counter) (holding g (past g.counter) g.counter)) e

-- ---- its label, by whether words wait
pub label_by : (g : Philox4x32X8) {b : Bool} → g.waiting ≡ b → label_of g ≡ record { first = cond b g.first g.counter; upper = b }
unfolding label_of
label_by g e = ap (λ (b : Bool). record { first = cond b g.first g.counter; upper = b }) e

-- ---- a draw made of its parts
-- where none wait: the upper words of its group, which wait then, with its number
abbrev pub begun : Philox4x32X8 → ℕ → List ℕ → Philox4x32X8
begun g n hi = record { key = g.key; stream = g.stream; counter = n; waiting = true; pending = hi; first = g.counter }

pub drawn_waiting : (g : Philox4x32X8) → g.waiting ≡ true → length g.pending ≡ 8 → {rng : Philox4x32X8} → rng ≡ sought g g.counter
    → ◌≡◌ {A = Draw} (record { words = g.pending; label = record { first = g.first; upper = true }; rng = rng }) (drawn g)
unfolding drawn
drawn_waiting g e l er =
    λ i. record { words = sym (words_waiting g e l) i; label = sym (label_by g e) i; rng = (er ∙ sym (next_waiting g e)) i }

pub drawn-fresh : (g : Philox4x32X8) → g.waiting ≡ false → {r : Group} {lo hi : List ℕ} {n : ℕ} → r ≡ group_at g g.counter
    → lo ≡ join_of r.w0 r.w1 → hi ≡ join_of r.w2 r.w3 → n ≡ past g.counter
    → ◌≡◌ {A = Draw} (record { words = lo; label = record { first = g.counter; upper = false }; rng = begun g n hi }) (drawn g)
unfolding drawn holding
drawn-fresh g e er el eh en =
    let lo = el ∙ ap (λ (r : Group). join_of r.w0 r.w1) er ∙ lower_joined g g.counter in
    let hi = eh ∙ ap (λ (r : Group). join_of r.w2 r.w3) er ∙ upper_joined g g.counter in
    (λ i. record { words = lo i; label = record { first = g.counter; upper = false }; rng = begun g (en i) (hi i) })
    ∙ (λ i. record { words = sym (words-fresh g e) i; label = sym (label_by g e) i; rng = sym (next-fresh g e) i })

-- ---- the draws left, by the groups and by whether words wait
pub left_by : (g : Philox4x32X8) {b : Bool} → g.waiting ≡ b → left_of g ≡ 2 * ((2 ^ 64 - g.counter) / 8) + cond b 1 0
unfolding left_of
left_by g e = ap (λ (b : Bool). 2 * ((2 ^ 64 - g.counter) / 8) + cond b 1 0) e

-- the groups, by 2 ^ 64 - 1
pub groups_left : (c : ℕ) → c < 2 ^ 64 → (2 ^ 64 - 1 - c) / 8 + ((2 ^ 64 - 1 - c) % 8 + 1) / 8 ≡ (2 ^ 64 - c) / 8
groups_left c h = omega arith
