-- A fill by way of a buffer: words are drawn into the buffer by a fill of kind 1, the buffer is cut into draws, and the draws are made into
-- groups. For any kind and engine. Assumes nothing.
use mathlib.Core.Path.{◌≡◌, refl, sym, ap, ◌∙◌}
use mathlib.Core.List.{List, ◌++◌}
use Prim.Native.Nat.{ℕ, zero, suc, ◌+◌, ◌*◌, ◌/◌, ◌%◌, ◌<◌, ◌≤◌, min}
use native.Mathlib.Nat.{add-zero, mul-suc, suc-mul, zero-mul, mul-zero}
use native.Mathlib.Numerals.{add-one}
use native.Mathlib.Omega.{arith}
use lib.ListN.{length, get_or, take, drop}
use lib.Seq.{length-take-le}
use Rattle.base.specs.Engine.{Engine, words_from, drawn_words, DrawnAt, draw_of}
use Rattle.base.proofs.Engine.{held_at_first}
use Rattle.base.specs.Iterate.{iterate}
use Rattle.base.specs.Stored.{stored}
use Rattle.base.specs.Table.{table}
use Rattle.base.proofs.Iterate.{iterate-then}
use Rattle.base.proofs.Stored.{length-stored, stored-first}
use Rattle.base.proofs.Table.{length-table, table_same}
use Rattle.fills.specs.Fill.{Kind, round_up, element, Filled}
use Rattle.fills.specs.Kinds.{u64s}
use Rattle.fills.specs.Buffer.{groups_ahead, stored_groups}
use Rattle.fills.proofs.Filling.{Sound, Filling, more, same_place}

-- a fill of kind 1 of the first n = m * 8 places of a buffer stores m draws in it
pub drawn_filled : {G : Type 0} {E : Engine G} {rng rng' : G} {after : List ℕ} {draws : ℕ} (buf : List ℕ) (n m : ℕ)
    → Filled E u64s rng (take n buf) after draws rng' → n ≡ m * 8 → n ≤ length buf → DrawnAt E rng 0 m buf (after ++ drop n buf) draws rng'
unfolding drawn_words
drawn_filled {G} {E} {rng} {rng'} {after} {draws} buf n m F en hn =
    record {
      writes = (λ i. words i ++ drop (size i) buf) ∙ sym (stored-first buf v (omega (arith, size)));
      count = made;
      state = F.state ∙ ap (λ (k : ℕ). iterate E.next k rng) made;
    }
  where
    W : ℕ → List ℕ
    W m = words_from E rng m

    v : List ℕ
    v = table (m * 8) (λ k. get_or (W (k / 8)) (k % 8) 0)

    size : n ≡ length v
    size = en ∙ sym (length-table (m * 8) _)

    len : length (take n buf) ≡ m * 8
    len = length-take-le n buf hn ∙ en

    made : draws ≡ m
    made = F.count ∙ omega (arith, len)

    same : (k : ℕ) → 1 * (k / 8) + 0 ≡ k / 8
    same k = omega arith

    words : after ≡ v
    words =
        F.writes ∙ ap (λ (k : ℕ). table k (element u64s W)) len
        ∙ table_same (m * 8) (element u64s W) _ (λ k h. ap (λ (q : ℕ). get_or (W q) (k % 8) 0) (same k))

-- draws keep a buffer's length
pub drawn-long : {G : Type 0} {E : Engine G} {g g' : G} {at m : ℕ} {a b : List ℕ} {draws : ℕ} → DrawnAt E g at m a b draws g'
    → length b ≡ length a
drawn-long {E = E} {g} {at = at} {m} {a} D = ap length D.writes ∙ length-stored a at (drawn_words E m g)

-- ---- q groups of a buffer, stored one after another
module _ {G A : Type 0} {E : Engine G} {K : Kind A} {g : G} {old : List A} where
  more_groups : {out : List A} {at draws : ℕ} {rng : G} (b : List ℕ) (q : ℕ) → Filling E K g old out at draws rng
      → ((i : ℕ) → i < K.draws * q → draw_of b i ≡ words_from E rng i) → at + q * K.places < length old + K.places
      → Filling E K g old (stored_groups K b out at q) (at + q * K.places) (draws + K.draws * q) (iterate E.next (K.draws * q) rng)
  unfolding stored_groups iterate
  more_groups {out} {at} {draws} {rng} b zero F H h =
      rw (zero-mul K.places, mul-zero K.draws, add-zero at, add-zero draws) F
  more_groups {out} {at} {draws} {rng} b (suc j) F H h =
      let w : ℕ = K.places in
      let d : ℕ = K.draws in
      let ew : suc j * w ≡ j * w + w = suc-mul j w in
      let ed : d * suc j ≡ d * j + d = mul-suc d j in
      let P = more_groups b j F (λ i l. H i (omega (arith, ed))) (omega (arith, ew, F.sound.some)) in
      let group : K.group (λ m. draw_of b (d * j + m)) ≡ K.group (λ m. words_from E (iterate E.next (d * j) rng) m) =
      F.sound.own (λ m. draw_of b (d * j + m)) (λ m. words_from E (iterate E.next (d * j) rng) m)
      (λ m l. H (d * j + m) (omega (arith, ed)) ∙ ap E.words (iterate-then E.next (d * j) m rng)) in
      let Q = more P (omega (arith, ew)) (K.group (λ m. draw_of b (d * j + m))) group refl refl in
      let ea : at + j * w + w ≡ at + suc j * w = omega (arith, ew) in
      let eg : draws + d * j + d ≡ draws + d * suc j = omega (arith, ed) in
      let er : iterate E.next d (iterate E.next (d * j) rng) ≡ iterate E.next (d * suc j) rng = sym (iterate-then E.next (d * j) d rng) ∙ ap (λ (n : ℕ). iterate E.next n rng) (sym ed) in
      rw (← er) (same_place Q ea eg)

  -- one turn of a buffered fill: the draws of q groups are drawn into a buffer that has room for them, and the groups are stored
  pub more_buffered : {out out' : List A} {at draws dr m : ℕ} {rng rng' : G} {a b : List ℕ} (q : ℕ) → Filling E K g old out at draws rng
      → DrawnAt E rng 0 m a b dr rng' → m * 8 ≤ length a → m ≡ K.draws * q → at + q * K.places < length old + K.places
      → out' ≡ stored_groups K b out at q → Filling E K g old out' (at + q * K.places) (draws + dr) rng'
  more_buffered {out} {out'} {at} {draws} {dr} {m} {rng} {rng'} {a} {b} q F B room em h eo =
      let ed : dr ≡ K.draws * q = B.count ∙ em in
      let er : rng' ≡ iterate E.next (K.draws * q) rng = B.state ∙ ap (λ (n : ℕ). iterate E.next n rng) em in
      rw (eo, ed, er) (more_groups b q F (λ i l. held_at_first F.eights B room i (omega (arith, em))) h)

-- ---- the loop that stores a buffer's groups: j of q groups are stored
pub record Grouping {A : Type 0} (K : Kind A) (b : List ℕ) (l : List A) (at q : ℕ) (out : List A) (j : ℕ) : Type 0 where
  pub upto : j ≤ q
  pub same : length out ≡ length l
  pub done : out ≡ stored_groups K b l at j

module _ {A : Type 0} {K : Kind A} {b : List ℕ} {l : List A} {at q : ℕ} where
  pub group-none : Grouping K b l at q l 0
  unfolding stored_groups
  group-none = record { upto = omega arith; same = refl; done = refl }

  pub group_more : {out out' v : List A} {j : ℕ} → Grouping K b l at q out j → j < q → out' ≡ stored out (at + j * K.places) v → v ≡ K.group (λ m. draw_of b (K.draws * j + m))
      → Grouping K b l at q out' (j + 1)
  unfolding stored_groups
  group_more {out} {out'} {v} {j} P h eo ev =
      record {
        upto = omega arith;
        same = ap length eo ∙ length-stored out (at + j * K.places) v ∙ P.same;
        done = rw (add-one j) (eo ∙ λ i. stored (P.done i) (at + j * K.places) (ev i));
      }

  pub group-end : {out : List A} {j : ℕ} → Grouping K b l at q out j → q ≤ j → out ≡ stored_groups K b l at q
  group-end {out} {j} P h = let e : j ≡ q = omega arith in P.done ∙ ap (stored_groups K b l at) e

-- ---- a kind whose groups take one draw: how many groups come next, and a group of the buffer's draw
module _ {A : Type 0} (K : Kind A) (one : K.draws ≡ 1) where
  pub ahead-one : (n : ℕ) {w q : ℕ} → w ≡ K.places → q ≡ min (round_up n w) 16 → q ≡ groups_ahead K n
  ahead-one n ew eq = eq ∙ λ i. min (round_up n (ew i)) (16 / sym one i)

  pub group-one : (b : List ℕ) {w : List ℕ} {j : ℕ} → Sound K → j < 16 → w ≡ draw_of b (j % 16) → K.group (λ _. w) ≡ K.group (λ m. draw_of b (K.draws * j + m))
  group-one b {w} {j} S h ew = S.own _ _ (λ m l. ew ∙ ap (draw_of b) (omega (arith, one) ∙ ap (λ (d : ℕ). d * j + m) (sym one)))
