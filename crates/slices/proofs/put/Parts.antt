-- A part of a slice that was written over is a store. Assumes nothing.
use mathlib.Core.Logic.{◌⊎◌, inl, inr}
use mathlib.Core.Path.{◌≡◌, refl, sym, ap, ◌∙◌}
use mathlib.Core.List.{List, [], ◌++◌}
use Prim.Native.Nat.{ℕ, ◌+◌, ◌-◌, ◌≤◌, min}
use native.Mathlib.Decide.{dec_le}
use native.Mathlib.Omega.{arith}
use lib.ListN.{length, take, drop}
use lib.Seq.{sets, sets-eq, take_all, length-take-le}
use borrow.Rule.Slice.PartMut.{put_mid}
use Rattle.std.proofs.lemmas.List.{take-append-drop, drop_all}
use Rattle.std.proofs.lemmas.Slice.{put_mid-paste}
use Rattle.base.specs.Stored.{stored}
use Rattle.base.proofs.Stored.{length-stored, stored-out, stored-two}

module _ {A : Type 0} where
  -- the k places from `at` on hold w now
  pub part_stored : (l w ys : List A) (at k : ℕ) → at + length w ≤ length l → k ≡ length w → ys ≡ w → put_mid at k l ys ≡ stored l at w
  unfolding stored
  part_stored l w ys at k h e p =
      put_mid-paste at k l ys w (length w) p (sym e) refl
      ∙ ap (λ (t : List A). take at l ++ t ++ drop (at + length w) l) (take_all (length w) w (omega arith))
      ∙ sym (sets-eq w l at h)

  -- what is stored of v past the end
  past : (l v : List A) (at : ℕ) → (v ≡ []) ⊎ (length l ≤ at) → l ≡ stored l at v
  unfolding stored
  past l v at (inl e) = ap (sets l at) (sym e)
  past l v at (inr h) = stored-out l v at h

  -- the first n elements of v are all that there is room for, or all there are
  pub stored_front : (l v : List A) (at n : ℕ) → n ≡ min (length v) (length l - at) → stored l at (take n v) ≡ stored l at v
  stored_front l v at n e =
      let m : List A = stored l at (take n v) in
      let k : length (take n v) ≡ n = length-take-le n v (omega arith) in
      let p : (drop n v ≡ []) ⊎ (length m ≤ at + n) = elim (dec_le (length v) n) [
        | yes q ↦ inl (drop_all n v q)
        | no q ↦ inr (rw length-stored (omega arith))
      ] in
      stored-two l at (take n v) (drop n v) refl (ap (λ (j : ℕ). at + j) k) (past m (drop n v) (at + n) p)
      ∙ ap (stored l at) (take-append-drop n v)
