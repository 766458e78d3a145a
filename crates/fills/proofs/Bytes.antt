-- A fill of bytes is the bytes of the fill of elements, with the same draws: for any kind. Assumes nothing.
use mathlib.Core.Path.{◌≡◌, refl, sym, ap, ◌∙◌, subst}
use mathlib.Core.Bool.{Bool, true, false, cond, ◌&&◌}
use mathlib.Core.List.{List}
use Prim.Native.Nat.{ℕ, zero, suc, ◌+◌, ◌-◌, ◌*◌, ◌/◌, ◌%◌, ◌<◌, ◌≤◌}
use native.Mathlib.Nat.{add-mul, mul-zero, zero-mul, suc-mul, mul_comm, mul_assoc, div-add-mod', div-lt_iff_lt-mul, div-div-eq-div-mul, mod-lt, div-eq_of_lt-le, div-mul-le_self, lt-div-mul-add, mul-le-mul_right}
use native.Mathlib.Numerals.{add-one}
use native.Mathlib.Omega.{arith}
use borrow.Author.Tests.{eqb-true}
use lib.Arith.{mod-mul}
use lib.Dec.{eqb, leb}
use lib.ListN.{length, get_or}
use lib.Seq.{ext_get_or}
use Rattle.base.specs.Engine.{Engine, words_from}
use Rattle.base.proofs.Engine.{EachEight}
use Rattle.base.specs.Bytes.{flat}
use Rattle.base.specs.Iterate.{iterate}
use Rattle.base.specs.Table.{table}
use Rattle.base.proofs.Bytes.{length-le_bytes, flat-length, get_or-flat}
use Rattle.base.proofs.Table.{length-table, get_or-table}
use Rattle.fills.specs.Fill.{Kind, element, draws_for, Filled}
use Rattle.fills.specs.FillBytes.{bytes_of, refusal_of, elements, bytes_written, bytes_draws, FilledBytes}
use Rattle.fills.specs.Buffer.{bytes_kind}
use Rattle.fills.specs.Kinds.{kinds, kind_at}
use Rattle.fills.proofs.Filling.{Sound}
use Rattle.fills.proofs.Sounds.{row}

round_le : (n W w t : ℕ) → 0 < w → t * W ≤ n + (W - 1) → t * (W * w) ≤ n * w + (W * w - 1)
round_le zero zero w t pos h = rw (zero-mul, mul-zero) (omega arith)
round_le (suc n) zero w t pos h = rw (zero-mul, mul-zero) (omega arith)
round_le n (suc W) w t pos h =
    let c : suc (t * suc W) * w ≤ (n + suc W) * w = mul-le-mul_right w (omega arith) in
    let c' : t * suc W * w + w ≤ n * w + suc W * w = rw (suc-mul, add-mul) at c in
    rw (← mul_assoc) (omega arith)

round_lt : (n W w t : ℕ) → 0 < w → 0 < W → n + (W - 1) < t * W + W → n * w + (W * w - 1) < (t + 1) * (W * w)
round_lt n W w t pos some h =
    let d : n * w ≤ t * W * w = mul-le-mul_right w (omega arith) in
    let e : 1 * w ≤ W * w = mul-le-mul_right w some in
    rw (add-one, suc-mul, ← mul_assoc) (omega arith)

module _ {A : Type 0} (K : Kind A) (sound : Sound K) (pos : 0 < K.width) where
  pub wide : (a : A) → length (bytes_of K a) ≡ K.width
  wide a = length-le_bytes K.width (K.bits a)

  -- the kind of bytes is sound too
  pub bytes_sound : Sound (bytes_kind K)
  bytes_sound =
      record {
        some = omega (arith, mul-le-mul_right K.width sound.some, pos);
        fits = omega (arith, sound.fits, mul-le-mul_right K.places pos, mul_comm K.places K.width);
        full = λ W h. flat-length (bytes_of K) K.width wide (K.group W) ∙ ap (λ (n : ℕ). n * K.width) (sound.full W h);
        own = λ X Y e. ap (flat (bytes_of K)) (sound.own X Y e);
      }

  -- the same draws
  pub bytes-draws : (n : ℕ) → draws_for (bytes_kind K) (n * K.width) ≡ draws_for K n
  bytes-draws n =
      let W : ℕ = K.places in
      let w : ℕ = K.width in
      let t : ℕ = (n + (W - 1)) / W in
      let a : t * W ≤ n + (W - 1) = div-mul-le_self (n + (W - 1)) W in
      let b : n + (W - 1) < t * W + W = lt-div-mul-add sound.some in
      ap (λ (x : ℕ). K.draws * x) (div-eq_of_lt-le (W * w) (round_le n W w t pos a) (round_lt n W w t pos sound.some b))

  module _ (words : ℕ → List ℕ) (eights : (m : ℕ) → length (words m) ≡ 8) where
    byte : (n k : ℕ) → k < n * K.width → element (bytes_kind K) words k ≡ get_or (flat (bytes_of K) (table n (element K words))) k 0
    byte n k h =
        let w : ℕ = K.width in
        let q : ℕ = k / w in
        let r : ℕ = k % w in
        let e : q * w + r ≡ k = div-add-mod' k w in
        let r< : r < w = mod-lt k pos in
        let q< : q < n = (div-lt_iff_lt-mul pos).1 h in
        let g : List A = K.group (λ m. words (K.draws * (q / K.places) + m)) in
        let full : length g ≡ K.places = sound.full (λ m. words (K.draws * (q / K.places) + m)) (λ m. eights (K.draws * (q / K.places) + m)) in
        let s : q % K.places < length g = subst (λ (x : ℕ). q % K.places < x) (sym full) (mod-lt q sound.some) in
        let t : k / (K.places * w) ≡ q / K.places = ap (λ (x : ℕ). k / x) (mul_comm K.places w) ∙ sym (div-div-eq-div-mul k w K.places) in
        ap (λ (x : ℕ). get_or (flat (bytes_of K) (K.group (λ m. words (K.draws * x + m)))) (k % (K.places * w)) 0) t
        ∙ ap (λ (x : ℕ). get_or (flat (bytes_of K) g) x 0) (mod-mul k sound.some pos)
        ∙ get_or-flat (bytes_of K) w wide g (q % K.places) r K.blank s r<
        ∙ ap (λ (x : A). get_or (bytes_of K x) r 0) (sym (get_or-table n (element K words) q K.blank q<))
        ∙ sym (get_or-flat (bytes_of K) w wide (table n (element K words)) q r K.blank (subst (λ (x : ℕ). q < x) (sym (length-table n (element K words))) q<) r<)
        ∙ ap (λ (x : ℕ). get_or (flat (bytes_of K) (table n (element K words))) x 0) e

    -- the bytes of the same elements
    pub bytes_written_lem : (n : ℕ) → table (n * K.width) (element (bytes_kind K) words) ≡ flat (bytes_of K) (table n (element K words))
    bytes_written_lem n =
        let B : ℕ → ℕ = element (bytes_kind K) words in
        ext_get_or 0 (table (n * K.width) B) (flat (bytes_of K) (table n (element K words)))
        (length-table (n * K.width) B ∙ sym (flat-length (bytes_of K) K.width wide (table n (element K words)) ∙ ap (λ (x : ℕ). x * K.width) (length-table n (element K words))))
        (λ k h.
        let h' : k < n * K.width = subst (λ (x : ℕ). k < x) (length-table (n * K.width) B) h in
        get_or-table (n * K.width) B k 0 h' ∙ byte n k h')

-- the kind of bytes of each row is sound
pub row_sound : (k : ℕ) → Sound (bytes_kind (kind_at k).kind)
row_sound k = bytes_sound (kind_at k).kind (row k).sound (row k).wide

-- an accepted number of bytes is a whole number of elements
whole : (k n : ℕ) → refusal_of k n ≡ 0 → elements k n * (kind_at k).kind.width ≡ n
unfolding refusal_of
whole k n e = go (leb 1 k && leb k (length kinds)) (eqb (n % (kind_at k).kind.width) 0) refl e
  where
    w : ℕ
    w = (kind_at k).kind.width

    go : (a b : Bool) → eqb (n % w) 0 ≡ b → ◌≡◌ {A = ℕ} (cond a (cond b 0 5) 4) 0 → n / w * w ≡ n
    go true true e r = omega (arith, div-add-mod' n w, eqb-true (n % w) 0 e)
    go true false e r = absurd (omega arith)
    go false b e r = absurd (omega arith)

module _ {G : Type 0} {E : Engine G} where
  -- an accepted call fills with the kind of bytes
  pub accepted-bytes : {k : ℕ} {g g' : G} {before after : List ℕ} {refusal draws : ℕ} → EachEight E → refusal ≡ refusal_of k (length before)
      → refusal ≡ 0
      → Filled E (bytes_kind (kind_at k).kind) g before after draws g' → FilledBytes E k g before after 0 draws g'
  unfolding bytes_written bytes_draws
  accepted-bytes {k} {g} {g'} {before} {after} {refusal} {draws} eights e z F =
      let K = (kind_at k).kind in
      let n : ℕ = elements k (length before) in
      let p : n * K.width ≡ length before = whole k (length before) (sym e ∙ z) in
      let W : ℕ → List ℕ = words_from E g in
      record {
        refuses = sym z ∙ e;
        writes = F.writes ∙ ap (λ (m : ℕ). table m (element (bytes_kind K) W)) (sym p) ∙ bytes_written_lem K (row k).sound (row k).wide W (λ m. eights (iterate E.next m g)) n;
        count = F.count ∙ ap (draws_for (bytes_kind K)) (sym p) ∙ bytes-draws K (row k).sound (row k).wide n;
        state = F.state;
      }

  -- a refused call changes nothing
  refused : (k : ℕ) (g : G) (before : List ℕ) (refusal : ℕ) → refusal ≡ refusal_of k (length before) → (refusal ≡ 0 → ⊥)
      → FilledBytes E k g before before refusal 0 g
  unfolding iterate
  refused k g before zero e h = absurd (h refl)
  refused k g before (suc n) e h = record { refuses = e; writes = refl; count = refl; state = refl }

  pub refused-bytes : {k : ℕ} {g : G} {before : List ℕ} {refusal : ℕ} → refusal ≡ refusal_of k (length before) → (refusal ≡ 0 → ⊥)
      → FilledBytes E k g before before refusal 0 g
  refused-bytes {k} {g} {before} {refusal} e h = refused k g before refusal e h
