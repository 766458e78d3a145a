-- The law behind every fill, for any kind and engine: what a loop over groups has done so far (`Filling`), that it starts so (`start`), that
-- a group keeps it (`more`), and that at the end it is the fill's promise (`finish`). Assumes nothing.
use mathlib.Core.Path.{◌≡◌, refl, sym, ap, ◌∙◌, fun_ext}
use mathlib.Core.List.{List}
use Prim.Native.Nat.{ℕ, ◌+◌, ◌-◌, ◌*◌, ◌%◌, ◌<◌, ◌≤◌}
use native.Mathlib.Nat.{suc-mul, mul-suc, mul-zero, zero-mul, div-eq_of_lt-le, not-suc-le-zero}
use native.Mathlib.Numerals.{add-one}
use native.Mathlib.Decide.{dec_lt}
use native.Mathlib.Omega.{arith}
use lib.Arith.{digits_div, digits_mod}
use lib.ListN.{length, get_or}
use lib.Seq.{ext_get_or}
use Rattle.base.proofs.Engine.{EachEight}
use Rattle.base.specs.Engine.{Engine, words_from}
use Rattle.base.specs.Iterate.{iterate}
use Rattle.base.specs.Stored.{stored}
use Rattle.base.specs.Table.{table}
use Rattle.base.proofs.Iterate.{iterate-then}
use Rattle.base.proofs.Stored.{length-stored, stored-before, stored_in}
use Rattle.base.proofs.Table.{length-table, get_or-table}
use Rattle.fills.specs.Fill.{Kind, element, Filled}

-- what the law asks of a kind: a group has some places, no fewer than its draws; draws of eight words make that many elements; and the
-- words of its own draws alone make them
pub record Sound {A : Type 0} (K : Kind A) : Type 0 where
  pub some : 0 < K.places
  pub fits : K.draws ≤ K.places
  pub full : (W : ℕ → List ℕ) → ((m : ℕ) → length (W m) ≡ 8) → length (K.group W) ≡ K.places
  pub own : (X Y : ℕ → List ℕ) → ((m : ℕ) → m < K.draws → X m ≡ Y m) → K.group X ≡ K.group Y

module _ {G A : Type 0} (E : Engine G) (K : Kind A) (g : G) (old : List A) where
  -- after some turns: out holds the elements of the places below `at`, `draws` draws were made, and rng is where they lead
  pub record Filling (out : List A) (at draws : ℕ) (rng : G) : Type 0 where
    pub turns : ℕ
    pub eights : EachEight E
    pub sound : Sound K
    pub same : length out ≡ length old
    pub place : at ≡ turns * K.places
    pub near : at < length old + K.places
    pub few : draws ≤ at
    pub count : draws ≡ K.draws * turns
    pub state : rng ≡ iterate E.next draws g
    pub done : (k : ℕ) → k < length old → k < at → get_or out k K.blank ≡ element K (words_from E g) k

module _ {A : Type 0} (K : Kind A) where
  pub element-at : (W : ℕ → List ℕ) (t r : ℕ) → r < K.places → element K W (t * K.places + r) ≡ get_or (K.group (λ m. W (K.draws * t + m))) r K.blank
  element-at W t r h =
      ap (λ (q : ℕ). get_or (K.group (λ m. W (K.draws * q + m))) ((t * K.places + r) % K.places) K.blank) (digits_div t h)
      ∙ ap (λ (n : ℕ). get_or (K.group (λ m. W (K.draws * t + m))) n K.blank) (digits_mod t h)

module _ {G A : Type 0} (E : Engine G) (K : Kind A) (g : G) where
  -- the words of the next group's draws, counted from the fill's start
  group_at : (t : ℕ) {draws : ℕ} {rng : G} → draws ≡ K.draws * t → rng ≡ iterate E.next draws g
      → K.group (words_from E rng) ≡ K.group (λ m. words_from E g (K.draws * t + m))
  group_at t {draws} {rng} hd hr = ap K.group (fun_ext (λ m. ap E.words (ap (iterate E.next m) (hr ∙ ap (λ (n : ℕ). iterate E.next n g) hd) ∙ sym (iterate-then E.next (K.draws * t) m g))))

module _ {G A : Type 0} {E : Engine G} {K : Kind A} {g : G} {old : List A} where
  pub start : EachEight E → Sound K → Filling E K g old old 0 0 g
  unfolding iterate
  start e h = record {
    turns = 0;
    eights = e;
    sound = h;
    same = refl;
    place = sym (zero-mul K.places);
    near = omega (arith, h.some);
    few = omega arith;
    count = sym (mul-zero K.draws);
    state = refl;
    done = λ k a b. absurd (not-suc-le-zero b);
  }

  in_group : {out : List A} {at draws : ℕ} {rng : G} (F : Filling E K g old out at draws rng)
      (v : List A) → length v ≡ K.places → v ≡ K.group (words_from E rng) → {out' : List A} → out' ≡ stored out at v
      → (k : ℕ) → k < length old → k < at + K.places → at ≤ k → get_or out' k K.blank ≡ element K (words_from E g) k
  in_group {out} {at} {draws} {rng} F v hv ev {out'} eo k a b q =
      let r : ℕ = k - at in
      let t : ℕ = F.turns in
      let r< : r < K.places = omega arith in
      let ek : k ≡ at + r = omega arith in
      let ek' : k ≡ t * K.places + r = ek ∙ ap (λ (n : ℕ). n + r) F.place in
      let W : ℕ → List ℕ = words_from E g in
      ap (λ (l : List A). get_or l k K.blank) eo
      ∙ ap (λ (n : ℕ). get_or (stored out at v) n K.blank) ek
      ∙ stored_in v out at r K.blank (omega arith) (omega (arith, F.same))
      ∙ ap (λ (l : List A). get_or l r K.blank) (ev ∙ group_at E K g t F.count F.state)
      ∙ sym (element-at K W t r r<)
      ∙ ap (element K W) (sym ek')

  pub more : {out : List A} {at draws : ℕ} {rng : G} → Filling E K g old out at draws rng → at < length old
      → (v : List A) → v ≡ K.group (words_from E rng)
      → {out' : List A} → out' ≡ stored out at v → {rng' : G} → rng' ≡ iterate E.next K.draws rng
      → Filling E K g old out' (at + K.places) (draws + K.draws) rng'
  more {out} {at} {draws} {rng} F h v ev {out'} eo {rng'} er =
      record {
        turns = F.turns + 1;
        eights = F.eights;
        sound = F.sound;
        same = ap length eo ∙ length-stored out at v ∙ F.same;
        place = rw (add-one, suc-mul) (ap (λ (n : ℕ). n + K.places) F.place);
        near = omega arith;
        few = omega (arith, F.few, F.sound.fits);
        count = rw (add-one, mul-suc) (ap (λ (n : ℕ). n + K.draws) F.count);
        state = er ∙ ap (iterate E.next K.draws) F.state ∙ sym (iterate-then E.next draws K.draws g);
        done = λ k a b. elim (dec_lt k at) [
          | yes p ↦ ap (λ (l : List A). get_or l k K.blank) eo ∙ stored-before v out at k K.blank p ∙ F.done k a p
          | no q ↦ in_group F v (ap length ev ∙ F.sound.full (words_from E rng) (λ m. F.eights (iterate E.next m rng))) ev eo k a b (omega arith)
        ];
      }

  pub same_place : {out : List A} {at draws : ℕ} {rng : G} → Filling E K g old out at draws rng → {at' draws' : ℕ} → at ≡ at'
      → draws ≡ draws' → Filling E K g old out at' draws' rng
  same_place F p q = rw (← p, ← q) F

  pub finish : {out : List A} {at draws : ℕ} {rng : G} → Filling E K g old out at draws rng → length old ≤ at
      → Filled E K g old out draws rng
  finish {out} {at} {draws} {rng} F h =
      let e : ℕ → A = element K (words_from E g) in
      record {
        writes =
            ext_get_or K.blank out (table (length old) e) (F.same ∙ sym (length-table (length old) e))
            (λ k b. let b' : k < length old = omega (arith, F.same) in F.done k b' (omega arith) ∙ sym (get_or-table (length old) e k K.blank b'));
        count = F.count ∙ ap (λ (t : ℕ). K.draws * t) (sym (div-eq_of_lt-le K.places (omega (arith, F.place, F.near)) (rw (add-one, suc-mul) (omega (arith, F.place)))));
        state = F.state;
      }

-- a fill keeps the length
pub filled_long : {G A : Type 0} {E : Engine G} {K : Kind A} {g g' : G} {before after : List A} {draws : ℕ}
    → Filled E K g before after draws g' → length after ≡ length before
filled_long {G} {A} {E} {K} {g} {g'} {before} {after} {draws} F =
    ap length F.writes ∙ length-table (length before) (element K (words_from E g))
