-- Stores into a list: what stands where, two runs of stores one after another, and the loop that stores as many elements as there is room
-- for. For any element type. Assumes nothing.
use mathlib.Core.Path.{◌≡◌, refl, sym, ap, ◌∙◌}
use mathlib.Core.List.{List, [], ◌∷◌, ◌++◌}
use Prim.Native.Nat.{ℕ, zero, suc, ◌+◌, ◌-◌, ◌<◌, ◌≤◌, min}
use native.Mathlib.Nat.{add-zero, zero-add, not-suc-le-zero, le_of_suc-le-suc}
use native.Mathlib.Decide.{dec_le}
use native.Mathlib.Numerals.{add-one}
use native.Mathlib.Omega.{arith}
use lib.ListN.{length, take, drop, get_or, set, length-set}
use lib.Seq.{sets, sets-eq, length-sets, set_out, take_all, take-suc, length-take-le, ext_get_or, get_or-set_same, get_or-set_other}
use Rattle.base.specs.Stored.{stored}

module _ {A : Type 0} where
  sets-before : (vs l : List A) (i k : ℕ) (d : A) → k < i → get_or (sets l i vs) k d ≡ get_or l k d
  sets-before [] l i k d h = refl
  sets-before (a ∷ vs) l i k d h = sets-before vs (set l i a) (suc i) k d (omega arith) ∙ get_or-set_other l i k a d (omega arith)

  sets_in : (vs l : List A) (i r : ℕ) (d : A) → r < length vs → i + r < length l → get_or (sets l i vs) (i + r) d ≡ get_or vs r d
  sets_in [] l i r d h b = absurd (not-suc-le-zero h)
  sets_in (a ∷ vs) l i zero d h b =
      let b' : i < length l = omega arith in
      rw add-zero (sets-before vs (set l i a) (suc i) i d (omega arith) ∙ get_or-set_same l i a d b')
  sets_in (a ∷ vs) l i (suc r) d h b =
      let e : i + suc r ≡ suc i + r = omega arith in
      rw e (sets_in vs (set l i a) (suc i) r d (le_of_suc-le-suc h) (rw length-set (omega arith)))

  sets_after : (vs l : List A) (i k : ℕ) (d : A) → i + length vs ≤ k → get_or (sets l i vs) k d ≡ get_or l k d
  sets_after [] l i k d h = refl
  sets_after (a ∷ vs) l i k d h = sets_after vs (set l i a) (suc i) k d (omega arith) ∙ get_or-set_other l i k a d (omega arith)

  sets-out : (l : List A) (i : ℕ) (vs : List A) → length l ≤ i → sets l i vs ≡ l
  sets-out l i [] h = refl
  sets-out l i (a ∷ vs) h = rw (set_out l i a h) (sets-out l (suc i) vs (omega arith))

  sets_short : (v : List A) (n : ℕ) (l : List A) (at : ℕ) → length l ≤ at + n → sets l at (take n v) ≡ sets l at v
  sets_short [] zero l at h = refl
  sets_short [] (suc n) l at h = refl
  sets_short (a ∷ v) zero l at h = sym (sets-out l at (a ∷ v) (omega arith))
  sets_short (a ∷ v) (suc n) l at h = sets_short v n (set l at a) (suc at) (rw length-set (omega arith))

  sets_snoc : (vs l : List A) (at : ℕ) (a : A) → sets l at (vs ++ (a ∷ [])) ≡ set (sets l at vs) (at + length vs) a
  sets_snoc [] l at a = rw add-zero
  sets_snoc (b ∷ vs) l at a = sets_snoc vs (set l at b) (suc at) a ∙ ap (λ (k : ℕ). set (sets (set l at b) (suc at) vs) k a) (omega arith)

  sets-append : (xs l : List A) (at : ℕ) (ys : List A) → sets l at (xs ++ ys) ≡ sets (sets l at xs) (at + length xs) ys
  sets-append [] l at ys = rw add-zero
  sets-append (x ∷ xs) l at ys = sets-append xs (set l at x) (suc at) ys ∙ ap (λ (k : ℕ). sets (sets (set l at x) (suc at) xs) k ys) (omega arith)

  -- ---- what stands where
  pub length-stored : (l : List A) (at : ℕ) (v : List A) → length (stored l at v) ≡ length l
  unfolding stored
  length-stored l at v = length-sets l at v

  pub stored-before : (v l : List A) (at k : ℕ) (d : A) → k < at → get_or (stored l at v) k d ≡ get_or l k d
  unfolding stored
  stored-before v l at k d h = sets-before v l at k d h

  pub stored_in : (v l : List A) (at r : ℕ) (d : A) → r < length v → at + r < length l → get_or (stored l at v) (at + r) d ≡ get_or v r d
  unfolding stored
  stored_in v l at r d h b = sets_in v l at r d h b

  pub stored_after : (v l : List A) (at k : ℕ) (d : A) → at + length v ≤ k → get_or (stored l at v) k d ≡ get_or l k d
  unfolding stored
  stored_after v l at k d h = sets_after v l at k d h

  -- past the end nothing is stored
  pub stored-out : (l v : List A) (at : ℕ) → length l ≤ at → l ≡ stored l at v
  unfolding stored
  stored-out l v at h = sym (sets-out l at v h)

  -- as many elements as there are, stored from the first place on, are the list
  pub stored-whole : (l v : List A) → length l ≡ length v → stored l 0 v ≡ v
  unfolding stored
  stored-whole [] [] h = refl
  stored-whole (x ∷ l) [] h = absurd (omega arith)
  stored-whole l (a ∷ v) h =
      let w : List A = a ∷ v in
      ext_get_or a (sets l 0 w) w (length-sets l 0 w ∙ h) (λ k b. rw zero-add at (sets_in w l 0 k a (omega (arith, length-sets l 0 w)) (omega (arith, length-sets l 0 w))))

  -- of more elements than there are places, the first are stored
  pub stored-over : (l v : List A) → length l ≤ length v → stored l 0 v ≡ take (length l) v
  unfolding stored
  stored-over l v h = sym (sets_short v (length l) l 0 (omega arith)) ∙ stored-whole l (take (length l) v)
      (sym (length-take-le (length l) v h))

  -- elements stored from the first place on stand before what was behind them
  pub stored-first : (l v : List A) → length v ≤ length l → stored l 0 v ≡ v ++ drop (length v) l
  unfolding stored
  stored-first l v h = sets-eq v l 0 (omega arith) ∙ ap (λ (k : ℕ). v ++ drop k l) (zero-add (length v))

  -- two runs of stores, one after the other
  pub stored-two : (l : List A) (at : ℕ) (xs ys : List A) {m out : List A} {at' : ℕ} → m ≡ stored l at xs → at + length xs ≡ at' → out ≡ stored m at' ys → out ≡ stored l at (xs ++ ys)
  unfolding stored
  stored-two l at xs ys {m} {out} {at'} e h e' = e' ∙ ap (λ (r : List A). sets r at' ys) e ∙ ap (λ (k : ℕ). sets (sets l at xs) k ys) (sym h) ∙ sym (sets-append xs l at ys)

  -- the same of eight elements and what follows them
  pub stored-eights : (l : List A) (at : ℕ) {m out xs xs' ys ys' : List A} → length xs ≡ 8 → m ≡ stored l at xs → out ≡ stored m (at + 8) ys → xs ≡ xs' → ys ≡ ys' → out ≡ stored l at (xs' ++ ys')
  stored-eights l at {m} {out} {xs} {xs'} {ys} {ys'} h e e' p q = stored-two l at xs ys e (ap (λ (k : ℕ). at + k) h) e' ∙ (λ i. stored l at (p i ++ q i))

-- ---- the loop that stores w elements: the first i of the n that there is room for are stored
pub record Putting {A : Type 0} (w : ℕ) (l : List A) (at : ℕ) (v : List A) (n : ℕ) (out : List A) (i : ℕ) : Type 0 where
  pub wide : length v ≡ w
  pub room : n ≡ min (length l - at) w
  pub upto : i ≤ n
  pub same : length out ≡ length l
  pub done : out ≡ stored l at (take i v)

module _ {A : Type 0} {w : ℕ} {l : List A} {at : ℕ} {v : List A} {n : ℕ} where
  pub put_none : length v ≡ w → n ≡ min (length l - at) w → Putting w l at v n l 0
  unfolding stored
  put_none a b = record { wide = a; room = b; upto = omega arith; same = refl; done = refl }

  pub put_more : {out : List A} {i : ℕ} → Putting w l at v n out i → i < n → (d : A) → Putting w l at v n (set out (at + i) (get_or v i d)) (i + 1)
  unfolding stored
  put_more {out} {i} P h d = record {
    wide = P.wide;
    room = P.room;
    upto = omega arith;
    same = length-set out (at + i) (get_or v i d) ∙ P.same;
    done =
        let b : i < length v = omega arith in
        rw (P.done, add-one, take-suc v i d b, sets_snoc, length-take-le i v (omega arith));
  }

  pub put_end : {out : List A} {i : ℕ} → Putting w l at v n out i → n ≤ i → out ≡ stored l at v
  unfolding stored
  put_end {out} {i} P h =
      P.done ∙ elim (dec_le (length l - at) w) [
        | yes p ↦ sets_short v i l at (omega arith)
        | no q ↦ ap (sets l at) (take_all i v (omega arith))
      ]
