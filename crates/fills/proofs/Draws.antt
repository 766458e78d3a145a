-- A fill that stores one group a turn: what it has done after j of its m groups (`Turning`), that it starts so (`turns_none`), that a turn of
-- one draw or of two keeps it (`one-draw`, `two-draws`), and that at the end it is the fill's promise (`turns_end`). For any kind and engine.
-- Assumes nothing.
use mathlib.Core.Path.{◌≡◌, refl, sym, ap, ap₂, ◌∙◌}
use mathlib.Core.List.{List}
use Prim.Native.Nat.{ℕ, ◌+◌, ◌*◌, ◌<◌, ◌≤◌}
use native.Mathlib.Nat.{suc-mul, mul-suc, mul-zero, zero-mul}
use native.Mathlib.Numerals.{add-one}
use native.Mathlib.Omega.{arith}
use lib.ListN.{length}
use Rattle.base.specs.Engine.{Engine, words_from}
use Rattle.base.proofs.Engine.{EachEight}
use Rattle.base.specs.Iterate.{iterate}
use Rattle.base.specs.Stored.{stored}
use Rattle.fills.specs.Fill.{Kind, round_up, Filled}
use Rattle.fills.proofs.Filling.{Sound, Filling, start, more, same_place, finish}
use Rattle.fills.proofs.Rounding.{round_covers, round_within}

module _ {G A : Type 0} (E : Engine G) (K : Kind A) (g : G) (old : List A) where
  pub record Turning (m : ℕ) (out : List A) (j : ℕ) (rng : G) : Type 0 where
    pub upto : j ≤ m
    pub all : m ≡ round_up (length old) K.places
    pub fills : Filling E K g old out (j * K.places) (K.draws * j) rng

module _ {G A : Type 0} {E : Engine G} {K : Kind A} {g : G} {old : List A} where
  pub turns_none : {m : ℕ} → EachEight E → Sound K → m ≡ round_up (length old) K.places → Turning E K g old m old 0 g
  turns_none e s h =
      record { upto = omega arith; all = h; fills = same_place (start e s) (sym (zero-mul K.places)) (sym (mul-zero K.draws)) }

  turn : {m : ℕ} {out out' v : List A} {j : ℕ} {rng rng' : G} → Turning E K g old m out j rng → j < m → v ≡ K.group (words_from E rng)
      → out' ≡ stored out (j * K.places) v → rng' ≡ iterate E.next K.draws rng → Turning E K g old m out' (j + 1) rng'
  turn {m} {out} {out'} {v} {j} T h ev eo er =
      let F = T.fills in
      let l : j < round_up (length old) K.places = omega (arith, T.all) in
      record {
        upto = omega arith;
        all = T.all;
        fills = same_place (more F (round_within (length old) K.places j F.sound.some l) v ev eo er) (rw (add-one, suc-mul) refl) (rw (add-one, mul-suc) refl);
      }

  -- a turn of one draw, whose words are w
  pub one-draw : {m : ℕ} {out out' : List A} {j : ℕ} {rng rng' : G} {w : List ℕ} → K.draws ≡ 1 → Turning E K g old m out j rng → j < m
      → w ≡ E.words rng
      → rng' ≡ E.next rng → out' ≡ stored out (j * K.places) (K.group (λ _. w)) → Turning E K g old m out' (j + 1) rng'
  unfolding iterate
  one-draw {rng = rng} {w = w} e T h ew er eo =
      turn T h (T.fills.sound.own (λ _. w) (words_from E rng) (λ i b. let z : 0 ≡ i = omega arith in ew ∙ ap (λ (k : ℕ). words_from E rng k) z)) eo
      (er ∙ ap (λ (k : ℕ). iterate E.next k rng) (sym e))

  -- a turn of two, whose words are a and b: f makes the group
  pub two-draws : {m : ℕ} {out out' : List A} {j : ℕ} {rng mid rng' : G} {a b : List ℕ} (f : List ℕ → List ℕ → List A) → ((X : ℕ → List ℕ) → K.group X ≡ f (X 0) (X 1))
      → K.draws ≡ 2 → Turning E K g old m out j rng → j < m → a ≡ E.words rng → mid ≡ E.next rng → b ≡ E.words mid → rng' ≡ E.next mid
      → out' ≡ stored out (j * K.places) (f a b) → Turning E K g old m out' (j + 1) rng'
  unfolding iterate
  two-draws {rng = rng} f ev e T h ea em eb er eo =
      turn T h (ap₂ f ea (eb ∙ ap E.words em) ∙ sym (ev (words_from E rng))) eo (er ∙ ap E.next em ∙ ap (λ (k : ℕ). iterate E.next k rng) (sym e))

  pub turns_end : {m : ℕ} {out : List A} {j draws : ℕ} {rng : G} → Turning E K g old m out j rng → m ≤ j → draws ≡ K.draws * m
      → Filled E K g old out draws rng
  turns_end {m} {out} {j} T h ed =
      let e : j ≡ m = omega arith in
      let F = T.fills in
      finish (same_place F (ap (λ (k : ℕ). k * K.places) (e ∙ T.all)) (ap (λ (k : ℕ). K.draws * k) e ∙ sym ed)) (round_covers (length old) K.places F.sound.some)
