-- The claims of specs/x8/Claims.antt. Assumes nothing.
use Rattle.std.proofs.Common.{◌≡◌, ℕ, zero, suc, ◌+◌, ◌-◌, ◌*◌, ◌/◌, ◌%◌, ◌^◌, ◌<◌, ◌≤◌, Bool, true, false, cond, List, length, get_or, sym, refl, ap, ◌∙◌, true≢false, arith}
use native.Mathlib.Decide.{dec_le}
use Rattle.base.specs.Iterate.{iterate}
use Rattle.base.specs.Table.{table}
use Rattle.base.specs.Quad.{Quad}
use Rattle.base.proofs.Iterate.{iterate_more, iterate_keeps}
use Rattle.base.proofs.Table.{get_or-table}
use Rattle.philox.specs.block.Philox.{group_of}
use Rattle.philox.specs.x8.Machine.{block_at, lower_at, upper_at, fresh, sought, holding}
use Rattle.philox.specs.x8.Machine.{grouped, words_of, next_of, drawn, left_of}
use Rattle.philox.specs.x8.Claims.{DrawWaiting, DrawFresh, GroupCall, Seek, SkipSeeks, EightWords}
use Rattle.philox.specs.x8.Claims.{LabelWaiting, LabelFresh, LabelKept, Numbered, KeepsNumber}
use Rattle.philox.specs.x8.Claims.{LeftWaiting, LeftFresh, LeftSought, LeftDrawn, LeftGrouped}
use Rattle.philox.specs.x8.Claims.{LeftWrapped, LeftAfter, LeftWithin, NoneLeft, LeftNew, LeftAtMost}
use Rattle.philox.specs.declared.x8.Label.{Label}
use Rattle.philox.specs.declared.x8.Philox4x32X8.{Philox4x32X8}
use Rattle.philox.proofs.x8.Machine.{words_waiting, next_waiting, words-fresh, next-fresh, label_by, left_by}
use Rattle.philox.proofs.x8.Skipping.{even_draws}

pub seek : Seek
unfolding sought
seek g n = record { same_key = refl; same_stream = refl; counter_is = refl; waits = refl; first_is = refl }

pub draw_waiting : DrawWaiting
unfolding drawn
draw_waiting g e l = (words_waiting g e l, rw (next_waiting g e) (seek g g.counter))

pub draw-fresh : DrawFresh
unfolding drawn holding lower_at upper_at
draw-fresh g e = (
  (λ i h. ap (λ (l : List ℕ). get_or l i 0) (words-fresh g e) ∙ get_or-table 8 (λ j. (block_at g (g.counter + j)).w0 + 2 ^ 32 * (block_at g (g.counter + j)).w1) i 0 h),
  (λ i h. ap (λ (x : Philox4x32X8). get_or x.pending i 0) (next-fresh g e) ∙ get_or-table 8 (λ j. (block_at g (g.counter + j)).w2 + 2 ^ 32 * (block_at g (g.counter + j)).w3) i 0 h),
  rw (next-fresh g e) (record { same_key = refl; same_stream = refl; counter_is = refl; waits = refl; first_is = refl }),
)

-- ---- labels
pub label_waiting : LabelWaiting
unfolding drawn
label_waiting g e = label_by g e

pub label-fresh : LabelFresh
unfolding drawn
label-fresh g e = label_by g e

-- after a draw that begins a group, m group calls later
groups_keep : (m : ℕ) (g : Philox4x32X8) → ((iterate (λ x. (grouped x).rng) m g).waiting ≡ g.waiting)
    × ((iterate (λ x. (grouped x).rng) m g).first ≡ g.first)
unfolding iterate grouped
groups_keep zero g = (refl, refl)
groups_keep (suc m) g = groups_keep m g

pub label_kept : LabelKept
unfolding drawn holding
label_kept g m e =
    let next = next-fresh g e in
    let kept = groups_keep m (next_of g) in
    let waits = kept.0 ∙ ap (λ (x : Philox4x32X8). x.waiting) next in
    let first = kept.1 ∙ ap (λ (x : Philox4x32X8). x.first) next ∙ sym (ap (λ (l : Label). l.first) (label_by g e)) in
    label_by (iterate (λ x. (grouped x).rng) m (next_of g)) waits ∙ ap (λ (n : ℕ). record { first = n; upper = true }) first

-- ---- the number of the group that waits
numbered_next : (g : Philox4x32X8) → Numbered (next_of g)
unfolding sought holding upper_at
numbered_next g = go g.waiting refl
  where
    go : (b : Bool) → g.waiting ≡ b → Numbered (next_of g)
    go true e = rw (next_waiting g e) (λ w. absurd (true≢false (sym w)))
    go false e = rw (next-fresh g e) (λ w. refl)

pub keeps_number : KeepsNumber
unfolding fresh drawn grouped sought upper_at iterate
keeps_number =
    record {
      new = λ seed stream w. absurd (true≢false (sym w));
      draw = λ g h. numbered_next g;
      blocks = λ g h. h;
      seek = λ g n h w. absurd (true≢false (sym w));
      skip = λ g n h. iterate_keeps Numbered next_of (λ x k. numbered_next x) n g h;
    }

pub group_call : GroupCall
unfolding grouped group_of
group_call g = (
  (λ i h. (at (λ q. q.w0) i h, at (λ q. q.w1) i h, at (λ q. q.w2) i h, at (λ q. q.w3) i h)),
  refl,
  record { same_key = refl; same_stream = refl; counter_is = refl; waits = refl; first_is = refl },
)
  where
    at : (w : Quad → ℕ) (i : ℕ) → i < 8 → get_or (table 8 (λ j. w (block_at g (g.counter + j)))) i 0 ≡ w (block_at g (g.counter + i))
    at w i h = get_or-table 8 (λ j. w (block_at g (g.counter + j))) i 0 h

pub skip-seeks : SkipSeeks
unfolding drawn
skip-seeks g c q h =
    let even = even_draws g c q h in
    (even, iterate_more next_of (2 * q) (sought g c) ∙ ap next_of even)

pub eight-words : EightWords
unfolding words_of lower_at table
eight-words g = go g.waiting
  where
    go : (b : Bool) → length (cond b (table 8 (λ i. get_or g.pending i 0)) (lower_at g g.counter)) ≡ 8
    go true = refl
    go false = refl

-- ---- draws left
pub left_waiting : LeftWaiting
left_waiting g e = left_by g e

pub left-fresh : LeftFresh
left-fresh g e = omega (arith, left_by g e)

pub left-sought : LeftSought
unfolding left_of sought
left-sought g n = omega arith

pub left-new : LeftNew
unfolding left_of fresh
left-new seed stream = refl

-- after a draw, by whether words waited
waited : (g : Philox4x32X8) → g.waiting ≡ true → left_of (next_of g) ≡ 2 * ((2 ^ 64 - g.counter) / 8)
unfolding left_of sought
waited g e = omega (arith, ap left_of (next_waiting g e))

begun : (g : Philox4x32X8) → g.waiting ≡ false → left_of (next_of g) ≡ 2 * ((2 ^ 64 - (g.counter + 8) % 2 ^ 64) / 8) + 1
unfolding left_of holding
begun g e = ap left_of (next-fresh g e)

pub left-drawn : LeftDrawn
unfolding drawn
left-drawn g h = go g.waiting refl
  where
    go : (b : Bool) → g.waiting ≡ b → left_of (next_of g) + 1 ≡ left_of g
    go true e = omega (arith, waited g e, left_by g e)
    go false e = omega (arith, h e, begun g e, left_by g e)

pub left-grouped : LeftGrouped
unfolding left_of grouped
left-grouped g h = omega arith

pub left_wrapped : LeftWrapped
unfolding drawn
left_wrapped g e h = omega (arith, begun g e)

-- where none wait and three draws or more are left, there are two whole groups
pub left_after : LeftAfter
unfolding iterate drawn
left_after g zero h = omega arith
left_after g (suc m) h =
    let before = left_after g m (omega arith) in
    let x = iterate next_of m g in
    omega (arith, before, left-drawn x (λ e. omega (arith, before, left_by x e)))

-- the counter after a draw, while it stays below 2 ^ 64
counted_on : (g : Philox4x32X8) → (g.waiting ≡ false → g.counter + 8 < 2 ^ 64) → g.counter ≤ (next_of g).counter
unfolding sought holding
counted_on g h = go g.waiting refl
  where
    go : (b : Bool) → g.waiting ≡ b → g.counter ≤ (next_of g).counter
    go true e = omega (arith, ap (λ (x : Philox4x32X8). x.counter) (next_waiting g e))
    go false e = omega (arith, h e, ap (λ (x : Philox4x32X8). x.counter) (next-fresh g e))

counted_far : (g : Philox4x32X8) (m : ℕ) → m + 2 ≤ left_of g → g.counter ≤ (iterate next_of m g).counter
unfolding iterate
counted_far g zero h = omega arith
counted_far g (suc m) h =
    let x = iterate next_of m g in
    omega (arith, counted_far g m (omega arith), counted_on x (λ e. omega (arith, left_after g m (omega arith), left_by x e)))

-- words wait after the draw that leaves one, so that no group begins there
pub left_within : LeftWithin
unfolding iterate holding
left_within g m h e = elim (dec_le (m + 2) (left_of g)) [
  | yes k ↦ (counted_far g m k, omega (arith, left_after g m k, left_by (iterate next_of m g) e))
  | no k ↦ absurd (last m (omega arith) e)
]
  where
    last : (m : ℕ) → m + 1 ≡ left_of g → (iterate next_of m g).waiting ≡ false → ⊥
    last zero q w = absurd (omega (arith, left_by g w))
    last (suc m) q w = waits (iterate next_of m g).waiting refl
      where
        x : Philox4x32X8
        x = iterate next_of m g

        two : left_of x ≡ 2
        two = omega (arith, left_after g m (omega arith))

        waits : (b : Bool) → x.waiting ≡ b → ⊥
        waits true b = absurd (omega (arith, two, left_by x b))
        waits false b = true≢false (sym (ap (λ (y : Philox4x32X8). y.waiting) (next-fresh x b)) ∙ w)

pub none_left : NoneLeft
none_left g = (λ z. let w = none-waits g.waiting refl z in (w, omega (arith, left_by g w)), λ h. omega (arith, left_by g h.0, h.1))
  where
    none-waits : (b : Bool) → g.waiting ≡ b → left_of g ≡ 0 → g.waiting ≡ false
    none-waits true e z = absurd (omega (arith, left_by g e))
    none-waits false e z = e

at_most_one : (b : Bool) → cond b 1 0 ≤ 1
at_most_one true = omega arith
at_most_one false = omega arith

pub left-at-most : LeftAtMost
unfolding left_of
left-at-most g = omega (arith, at_most_one g.waiting)
