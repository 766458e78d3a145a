-- A fill in two parts: words of many draws at once while whole groups are left, then a fill of the places after them. The second part is
-- for any kind and engine. Assumes nothing.
use mathlib.Core.Path.{◌≡◌, refl, sym, ap, ◌∙◌, subst, fun_ext}
use mathlib.Core.List.{List, [], ◌∷◌, ◌++◌}
use Prim.Native.Nat.{ℕ, ◌+◌, ◌-◌, ◌*◌, ◌/◌, ◌%◌, ◌<◌, ◌≤◌}
use native.Mathlib.Nat.{le_of_eq, add_comm, mul-add, add-mul-div_right, add-mul-mod_self_right}
use native.Mathlib.Decide.{dec_lt}
use native.Mathlib.Omega.{arith}
use borrow.Rule.Slice.PartMut.{mid_of, put_mid}
use lib.ListN.{length, get_or, take, drop, length-append, length-drop, drop_of_length-le, get_or-append}
use lib.Seq.{ext_get_or, take_all, length-take-le, get_or-take, get_or-append-add}
use Rattle.base.specs.Engine.{Engine, words_from, drawn_words, DrawnAt}
use Rattle.base.specs.Iterate.{iterate}
use Rattle.base.specs.Stored.{stored}
use Rattle.base.specs.Table.{table}
use Rattle.base.proofs.Iterate.{iterate-then}
use Rattle.base.proofs.Stored.{length-stored, stored-before, stored_in}
use Rattle.base.proofs.Table.{length-table, get_or-table}
use Rattle.fills.specs.Fill.{Kind, element, draws_for, Filled}
use Rattle.fills.specs.Kinds.{u64s}
use Rattle.fills.proofs.Filling.{Filling, same_place}

-- ---- a fill of words
module _ {G : Type 0} {E : Engine G} {g : G} {old : List ℕ} where
  turn : {out out' : List ℕ} {at draws dr m : ℕ} {rng rng' : G} → Filling E u64s g old out at draws rng
      → DrawnAt E rng at m out out' dr rng' → at + m * 8 ≤ length old → Filling E u64s g old out' (at + m * 8) (draws + dr) rng'
  unfolding drawn_words
  turn {out} {out'} {at} {draws} {dr} {m} {rng} {rng'} F D h =
      record {
        turns = F.turns + m;
        eights = F.eights;
        sound = F.sound;
        same = ap length D.writes ∙ length-stored out at v ∙ F.same;
        place = omega (arith, F.place);
        near = omega arith;
        few = omega (arith, F.few, D.count);
        count = omega (arith, F.count, D.count);
        state = D.state ∙ ap (iterate E.next m) F.state ∙ sym (iterate-then E.next draws m g) ∙ ap (λ (n : ℕ). iterate E.next (draws + n) g) (sym D.count);
        done = λ k a b. elim (dec_lt k at) [
          | yes p ↦ ap (λ (l : List ℕ). get_or l k 0) D.writes ∙ stored-before v out at k 0 p ∙ F.done k a p
          | no p ↦ inside k a b p
        ];
      }
    where
      W : ℕ → List ℕ
      W i = words_from E g i

      U : ℕ → ℕ
      U k = get_or (words_from E rng (k / 8)) (k % 8) 0

      v : List ℕ
      v = table (m * 8) U

      inside : (k : ℕ) → k < length old → k < at + m * 8 → (k < at → ⊥) → get_or out' k 0 ≡ element u64s W k
      inside k a b p =
          let r : ℕ = k - at in
          let ek : k ≡ at + r = omega arith in
          let eq : draws + r / 8 ≡ 1 * (k / 8) + 0 = omega (arith, F.place, F.count) in
          let em : r % 8 ≡ k % 8 = omega (arith, F.place) in
          ap (λ (l : List ℕ). get_or l k 0) D.writes
          ∙ ap (λ (n : ℕ). get_or (stored out at v) n 0) ek
          ∙ stored_in v out at r 0 (rw (length-table (m * 8) U) (omega arith)) (omega (arith, F.same))
          ∙ get_or-table (m * 8) U r 0 (omega arith)
          ∙ ap (λ (s : G). get_or (words_from E s (r / 8)) (r % 8) 0) F.state
          ∙ ap (λ (s : G). get_or (E.words s) (r % 8) 0) (sym (iterate-then E.next draws (r / 8) g))
          ∙ ap (λ (n : ℕ). get_or (W n) (r % 8) 0) eq
          ∙ ap (λ (n : ℕ). get_or (W (1 * (k / 8) + 0)) n 0) em

  -- one turn of a fill of words: m draws are stored that have room
  pub more_drawn : {out out' : List ℕ} {at draws dr m : ℕ} {rng rng' : G} → Filling E u64s g old out at draws rng
      → DrawnAt E rng at m out out' dr rng' → at + m * 8 ≤ length old → Filling E u64s g old out' (at + dr * 8) (draws + dr) rng'
  more_drawn F D h = same_place (turn F D h) (omega (arith, D.count)) refl

append-none : {A : Type 0} (l : List A) → l ++ [] ≡ l
append-none [] = refl
append-none (x ∷ l) = ap (λ (t : List _). x ∷ t) (append-none l)

module _ {G A : Type 0} {E : Engine G} {K : Kind A} {g : G} {old : List A} where
  -- whole groups, and a fill of the places after them
  finish_rest : {out after : List A} {at draws dr : ℕ} {rng rng' : G} → Filling E K g old out at draws rng → at ≤ length old
      → Filled E K rng (drop at out) after dr rng' → Filled E K g old (take at out ++ after) (draws + dr) rng'
  finish_rest {out} {after} {at} {draws} {dr} {rng} {rng'} F h R =
      record {
        writes =
            ext_get_or K.blank (take at out ++ after) (table n (element K W)) (total ∙ sym (length-table n (element K W)))
            (λ k b. let b' : k < n = omega (arith, total) in place k b' (dec_lt k at) ∙ sym (get_or-table n (element K W) k K.blank b'));
        count = counted;
        state = R.state ∙ ap (iterate E.next dr) F.state ∙ sym (iterate-then E.next draws dr g);
      }
    where
      n : ℕ
      n = length old

      w : ℕ
      w = K.places

      d : ℕ
      d = K.draws

      t : ℕ
      t = F.turns

      W : ℕ → List ℕ
      W m = words_from E g m

      U : ℕ → List ℕ
      U m = words_from E rng m

      long : length (take at out) ≡ at
      long = length-take-le at out (omega (arith, F.same))

      left : length (drop at out) ≡ n - at
      left = length-drop at out ∙ ap (λ (x : ℕ). x - at) F.same

      rest : length after ≡ n - at
      rest = ap length R.writes ∙ length-table (length (drop at out)) (element K U) ∙ left

      total : length (take at out ++ after) ≡ n
      total = length-append (take at out) after ∙ omega (arith, long, rest)

      -- a later draw, counted from the start
      later : (m : ℕ) → U m ≡ W (d * t + m)
      later m =
          ap (λ (s : G). words_from E s m) (F.state ∙ ap (λ (x : ℕ). iterate E.next x g) F.count)
          ∙ ap E.words (sym (iterate-then E.next (d * t) m g))

      shifted : (r : ℕ) → element K U r ≡ element K W (r + t * w)
      shifted r =
          ap (λ (X : ℕ → List ℕ). get_or (K.group X) (r % w) K.blank) (fun_ext (λ m. later (d * (r / w) + m) ∙ ap W (place_of m)))
          ∙ ap (λ (x : ℕ). get_or (K.group (λ m. W (d * ((r + t * w) / w) + m))) x K.blank) (sym (add-mul-mod_self_right r t w))
        where
          place_of : (m : ℕ) → d * t + (d * (r / w) + m) ≡ d * ((r + t * w) / w) + m
          place_of m = rw (add-mul-div_right r t F.sound.some, mul-add d (r / w) t) (omega arith)

      place : (k : ℕ) → k < n → Dec (k < at) → get_or (take at out ++ after) k K.blank ≡ element K W k
      place k b (yes p) =
          get_or-append (take at out) after K.blank k (omega (arith, long)) ∙ get_or-take at out k K.blank p ∙ F.done k b p
      place k b (no p) =
          let r : ℕ = k - at in
          let e : k ≡ length (take at out) + r = omega (arith, long) in
          let e' : r + t * w ≡ k = omega (arith, F.place) in
          ap (λ (x : ℕ). get_or (take at out ++ after) x K.blank) e
          ∙ get_or-append-add (take at out) after r K.blank
          ∙ ap (λ (l : List A). get_or l r K.blank) R.writes
          ∙ get_or-table (length (drop at out)) (element K U) r K.blank (omega (arith, left))
          ∙ shifted r ∙ ap (element K W) e'

      counted : draws + dr ≡ draws_for K n
      counted =
          let e : n + (w - 1) ≡ n - at + (w - 1) + t * w = omega (arith, F.place) in
          (λ i. F.count i + (R.count ∙ ap (draws_for K) left) i)
          ∙ sym (ap (λ (x : ℕ). d * (x / w)) e ∙ ap (λ (x : ℕ). d * x) (add-mul-div_right (n - at + (w - 1)) t F.sound.some) ∙ mul-add d ((n - at + (w - 1)) / w) t ∙ add_comm _ (d * t))

  -- the same where the rest is lent as `&mut out[at..]`: the borrow checker's words for that part are `mid_of` and `put_mid`
  pub finish_part : {out after : List A} {at draws dr : ℕ} {rng rng' : G} → Filling E K g old out at draws rng → at ≤ length old
      → Filled E K rng (mid_of at (length out - at) out) after dr rng'
      → Filled E K g old (put_mid at (length out - at) out after) (draws + dr) rng'
  finish_part {out} {after} {at} {draws} {dr} {rng} {rng'} F h R =
      let k : ℕ = length out - at in
      let whole : mid_of at k out ≡ drop at out = take_all k (drop at out) (le_of_eq (length-drop at out)) in
      let none : drop k (drop at out) ≡ [] = drop_of_length-le (drop at out) (le_of_eq (length-drop at out)) in
      let e : put_mid at k out after ≡ take at out ++ after = ap (λ (t : List A). take at out ++ t) (ap (λ (t : List A). after ++ t) none ∙ append-none after) in
      subst (λ (l : List A). Filled E K g old l (draws + dr) rng') (sym e)
      (finish_rest F h (subst (λ (l : List A). Filled E K rng l after dr rng') whole R))
