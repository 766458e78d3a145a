-- Eight blocks stored as their lower and upper words are two draws; the loop over such groups; and the draws of a call. Assumes nothing.
use Rattle.std.proofs.Common.{◌≡◌, ℕ, zero, suc, ◌+◌, ◌-◌, ◌*◌, ◌/◌, ◌%◌, ◌^◌, ◌<◌, ◌≤◌, min, Bool, true, false, cond, List, length, get_or, set, sym, refl, ap, ◌∙◌, arith}
use Rattle.base.proofs.Engine.{none-drawn, drawn_more, held_at_first}
use Rattle.base.specs.Engine.{drawn_words, DrawnAt, draw_of}
use Rattle.base.specs.Iterate.{iterate}
use Rattle.base.specs.Stored.{stored}
use Rattle.base.proofs.Stored.{length-stored}
use Rattle.base.proofs.Table.{length-table, table_same}
use Rattle.philox.specs.block.Philox.{block}
use Rattle.philox.specs.x8.Machine.{block_at, lower_at, upper_at, sought, holding, past, words_of, next_of, drawn, engine}
use Rattle.philox.specs.declared.x8.Philox4x32X8.{Philox4x32X8}
use Rattle.philox.specs.declared.x8.Draw.{Draw}
use Rattle.philox.proofs.x8.Machine.{words_waiting, next_waiting, words-fresh, next-fresh, label_by, begun}
use Rattle.philox.proofs.x8.Theorems.{eight-words}
use Rattle.philox.specs.draws.Draws.{lower_of, upper_of, at_block, draws_at_once}
use Rattle.philox.proofs.draws.Stores.{Storing, storing_more, storing_end}

-- ---- eight blocks are two draws
module _ (key : List ℕ) (stream n : ℕ) where
  abbrev G : Philox4x32X8
  G = at_block key stream n

  upper_long : length (upper_at G n) ≡ 8
  unfolding upper_at
  upper_long = length-table 8 _

  second_words : words_of (next_of G) ≡ upper_at G n
  unfolding holding
  second_words = ap words_of (next-fresh G refl) ∙ words_waiting (holding G (past n) n) refl upper_long

  second_next : next_of (next_of G) ≡ at_block key stream (past n)
  unfolding holding sought
  second_next = ap next_of (next-fresh G refl) ∙ next_waiting (holding G (past n) n) refl

  -- the loop over the blocks of a group, and its turn
  abbrev pub GroupStoring : List ℕ → ℕ → List ℕ → ℕ → Type 0
  GroupStoring l at out i = Storing l at (λ j. lower_of (block_at G (n + j))) (λ j. upper_of (block_at G (n + j))) out i

  pub block-stored : {l out : List ℕ} {at i number a b : ℕ} → GroupStoring l at out i → i < 8 → number ≡ (n + i) % 2 ^ 64
      → (a ≡ lower_of (block (get_or key 0 0) (get_or key 1 0) stream number)) × (b ≡ upper_of (block (get_or key 0 0) (get_or key 1 0) stream number))
      → GroupStoring l at (set (set out (at + i) a) (at + 8 + i) b) (i + 1)
  block-stored S h e (ea, eb) =
      storing_more S h (ea ∙ ap (λ (k : ℕ). lower_of (block (get_or key 0 0) (get_or key 1 0) stream k)) e) (eb ∙ ap (λ (k : ℕ). upper_of (block (get_or key 0 0) (get_or key 1 0) stream k)) e)

  pub group-stored : {l out : List ℕ} {at i : ℕ} → GroupStoring l at out i → 8 ≤ i → out ≡ stored (stored l at (lower_at G n)) (at + 8) (upper_at G n)
  unfolding lower_at upper_at
  group-stored S h = storing_end S h

  -- two draws more, from here on
  group-drawn : {g : Philox4x32X8} {l out out' : List ℕ} {at m n' : ℕ} → DrawnAt engine g at m l out m G
      → out' ≡ stored (stored out (at + m * 8) (lower_at G n)) (at + m * 8 + 8) (upper_at G n) → n' ≡ past n
      → DrawnAt engine g at (m + 1 + 1) l out' (m + 1 + 1) (at_block key stream n')
  group-drawn {g} {l} {out} {out'} {at} {m} {n'} D eo en =
      let lower = ap (stored out (at + m * 8)) (sym (words-fresh G refl)) in
      let first = drawn_more eight-words D lower refl in
      let e : at + m * 8 + 8 ≡ at + (m + 1) * 8 = omega arith in
      drawn_more eight-words first (eo ∙ (λ k. stored (stored out (at + m * 8) (lower_at G n)) (e k) (sym second_words k))) (ap (at_block key stream) en ∙ sym second_next)

-- the second of the two, both of them in a list of 16
pub upper-drawn : (g : Philox4x32X8) (n : ℕ) {old both hi : List ℕ} {d : ℕ} {rng : Philox4x32X8} → length old ≡ 16
    → DrawnAt engine (at_block g.key g.stream n) 0 2 old both d rng → hi ≡ draw_of both 1 → hi ≡ upper_at g n
unfolding iterate upper_at
upper-drawn g n long D eh = eh ∙ held_at_first eight-words D (omega arith) 1 (omega arith) ∙ second_words g.key g.stream n

-- ---- the loop over groups: the draws of the first i groups are stored, and block n is next
pub record Grouping (key : List ℕ) (stream first : ℕ) (l : List ℕ) (at m : ℕ) (out : List ℕ) (n i : ℕ) : Type 0 where
  pub upto : i ≤ m
  pub same : length out ≡ length l
  pub drawn : DrawnAt engine (at_block key stream first) at (2 * i) l out (2 * i) (at_block key stream n)

module _ {key : List ℕ} {stream first : ℕ} {l : List ℕ} {at m : ℕ} where
  pub grouping_none : Grouping key stream first l at m l first 0
  grouping_none = record { upto = omega arith; same = refl; drawn = none-drawn refl }

  pub grouping_more : {out out' : List ℕ} {n n' i : ℕ} → Grouping key stream first l at m out n i → i < m
      → out' ≡ stored (stored out (at + i * 16) (lower_at (at_block key stream n) n)) (at + i * 16 + 8) (upper_at (at_block key stream n) n) → n' ≡ past n
      → Grouping key stream first l at m out' n' (i + 1)
  grouping_more {out} {out'} {n} {n'} {i} S h eo en =
      let L = lower_at (at_block key stream n) n in
      let U = upper_at (at_block key stream n) n in
      let e : at + i * 16 ≡ at + 2 * i * 8 = omega arith in
      let e' : 2 * i + 1 + 1 ≡ 2 * (i + 1) = omega arith in
      record {
        upto = omega arith;
        same = ap length eo ∙ length-stored (stored out (at + i * 16) L) (at + i * 16 + 8) U ∙ length-stored out (at + i * 16) L ∙ S.same;
        drawn = rw e' at (group-drawn key stream n S.drawn (eo ∙ ap (λ (k : ℕ). stored (stored out k L) (k + 8) U) e) en);
      }

  pub grouping_end : {out : List ℕ} {n i : ℕ} → Grouping key stream first l at m out n i → m ≤ i
      → DrawnAt engine (at_block key stream first) at (2 * m) l out (2 * m) (at_block key stream n)
  grouping_end {out} {n} {i} S h =
      let u = S.upto in
      let e : i ≡ m = omega arith in
      rw e at S.drawn

-- ---- one call: its draws, by whether words wait
once : (g : Philox4x32X8) (n : ℕ) {b : Bool} → g.waiting ≡ b → draws_at_once g n ≡ cond b 1 (2 * (n / 16))
unfolding draws_at_once
once g n e = ap (λ (b : Bool). cond b 1 (2 * (n / 16))) e

-- where 16 places are left, a call makes some draws, and all have room
pub drawn-some : {g rng : Philox4x32X8} {at d : ℕ} {l out : List ℕ} → DrawnAt engine g at (draws_at_once g (length l - at)) l out d rng
    → 16 ≤ length l - at → (0 < d) × (d * 8 ≤ length l - at)
drawn-some {g} {rng} {at} {d} {l} D h = rw (D.count, once g n refl) (go g.waiting)
  where
    n : ℕ
    n = length l - at

    go : (b : Bool) → (0 < cond b 1 (2 * (n / 16))) × (cond b 1 (2 * (n / 16)) * 8 ≤ n)
    go true = (omega arith, omega arith)
    go false = (omega arith, omega arith)

-- where none wait, a draw does not look at what stands in their place
module _ (g : Philox4x32X8) (e : g.waiting ≡ false) where
  abbrev H : Philox4x32X8
  H = at_block g.key g.stream g.counter

  same-words : words_of g ≡ words_of H
  unfolding lower_at
  same-words = words-fresh g e ∙ sym (words-fresh H refl)

  same_next : (k : ℕ) → iterate next_of (suc k) g ≡ iterate next_of (suc k) H
  unfolding iterate holding upper_at
  same_next zero = next-fresh g e ∙ sym (next-fresh H refl)
  same_next (suc k) = ap next_of (same_next k)

  same_later : (k : ℕ) → words_of (iterate next_of k g) ≡ words_of (iterate next_of k H)
  unfolding iterate
  same_later zero = same-words
  same_later (suc k) = ap words_of (same_next k)

  -- one draw made with the one after it, the words of both in a list of 16
  pub both_drawn : {old both lo hi : List ℕ} {d n : ℕ} → length old ≡ 16 → DrawnAt engine H 0 2 old both d (at_block g.key g.stream n)
      → lo ≡ draw_of both 0 → hi ≡ draw_of both 1
      → ◌≡◌ {A = Draw} (record { words = lo; label = record { first = g.counter; upper = false }; rng = begun g n hi }) (drawn g)
  unfolding drawn holding iterate
  both_drawn {n = n} long D el eh =
      let lo = el ∙ held_at_first eight-words D (omega arith) 0 (omega arith) ∙ sym same-words in
      let hi = upper-drawn g g.counter long D eh in
      let en : n ≡ past g.counter = ap (λ (x : Philox4x32X8). x.counter) (D.state ∙ second_next g.key g.stream g.counter) in
      let made : begun g n _ ≡ next_of g = (λ i. begun g (en i) (hi i)) ∙ sym (next-fresh g e) in
      λ i. record { words = lo i; label = sym (label_by g e) i; rng = made i }

  same-drawn : (m : ℕ) → drawn_words engine m g ≡ drawn_words engine m H
  unfolding drawn_words
  same-drawn m = table_same (m * 8) _ _ (λ k h. ap (λ (l : List ℕ). get_or l (k % 8) 0) (same_later (k / 8)))

  module _ (l : List ℕ) (at : ℕ) {r : ℕ} (er : r ≡ min (length l - at) (length l)) where
    whole : 2 * (r / 16) ≡ draws_at_once g (length l - at)
    whole =
        let e' : r ≡ length l - at = omega arith in
        ap (λ (k : ℕ). 2 * (k / 16)) e' ∙ sym (once g (length l - at) e)

    pub no_room : r / 16 ≡ 0 → DrawnAt engine g at (draws_at_once g (length l - at)) l l 0 g
    no_room z =
        let e' : 0 ≡ draws_at_once g (length l - at) = omega (arith, whole) in
        rw (← e') (none-drawn refl)

    pub groups_drawn : (r / 16 ≡ 0 → ⊥) → {out : List ℕ} {n : ℕ} {rng : Philox4x32X8}
        → DrawnAt engine H at (2 * (r / 16)) l out (2 * (r / 16)) (at_block g.key g.stream n) → rng ≡ sought g n
        → DrawnAt engine g at (draws_at_once g (length l - at)) l out (2 * (r / 16)) rng
    unfolding sought
    groups_drawn z D en =
        let m : ℕ = 2 * (r / 16) in
        let some : m ≡ suc (m - 1) = omega arith in
        let state = en ∙ D.state ∙ ap (λ (k : ℕ). iterate next_of k H) some ∙ sym (same_next (m - 1)) ∙ ap (λ (k : ℕ). iterate next_of k g) (sym some) in
        rw (← whole) (record { writes = D.writes ∙ ap (stored l at) (sym (same-drawn m)); count = refl; state = state })

-- where words wait, they are the draw
pub waiting_drawn : (g : Philox4x32X8) → g.waiting ≡ true → (n : ℕ) {l out : List ℕ} {at : ℕ} {d : Draw} → d ≡ drawn g → out ≡ stored l at d.words
    → DrawnAt engine g at (draws_at_once g n) l out 1 d.rng
unfolding drawn
waiting_drawn g e n {l} {out} {at} {d} ed eo =
    let here : at ≡ at + 0 * 8 = omega arith in
    let written = eo ∙ (λ k. stored l (here k) (ed k).words) in
    rw (once g n e) (drawn_more eight-words (none-drawn refl) written (ap (λ (x : Draw). x.rng) ed))
