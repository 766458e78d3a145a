-- Texts put one behind another, and texts that need room. Assumes nothing.
use mathlib.Core.Bool.{Bool, true, false}
use mathlib.Core.List.{List, [], ◌∷◌, ◌++◌, append_assoc}
use mathlib.Core.Path.{◌≡◌, refl, sym, ap, ◌∙◌}
use Prim.Native.Nat.{ℕ, ◌+◌, ◌≤◌}
use native.Mathlib.Nat.{add_assoc, add-zero}
use native.Mathlib.Omega.{arith}
use lib.Dec.{leb}
use lib.ListN.{length, take, drop, set, length-append}
use lib.Seq.{sets-eq, take-append_seam}
use borrow.Author.Tests.{le-leb}
use Rattle.base.specs.Stored.{stored}
use Rattle.base.proofs.Stored.{stored-two, length-stored}
use Rattle.base.specs.Put.{Put, given}

pub put_nothing : (at : ℕ) (l : List ℕ) → Put [] at l l at
unfolding stored
put_nothing at l = record { next = sym (add-zero at); made = refl }

pub put_one : (at v : ℕ) (l : List ℕ) → Put (v ∷ []) at l (set l at v) (at + 1)
unfolding stored
put_one at v l = record { next = refl; made = refl }

pub put_length : {t : List ℕ} {at r : ℕ} {l l' : List ℕ} → Put t at l l' r → length l' ≡ length l
put_length {t} {at} {r} {l} p = ap length p.made ∙ length-stored l at t

-- a text behind a text
pub put_then : {t u : List ℕ} {at m r : ℕ} {l l' l'' : List ℕ} → Put t at l l' m → Put u m l' l'' r → Put (t ++ u) at l l'' r
put_then {t} {u} {at} {m} {r} {l} p q =
    record {
      next = q.next ∙ ap (λ (x : ℕ). x + length u) p.next ∙ simp (length-append, add_assoc);
      made = stored-two l at t u p.made (sym p.next) q.made;
    }

-- a byte behind a text
pub put_byte : {t : List ℕ} {at m : ℕ} {l l' : List ℕ} (v : ℕ) → Put t at l l' m → Put (t ++ (v ∷ [])) at l (set l' m v) (m + 1)
put_byte {t} {at} {m} {l} {l'} v p = put_then p (put_one m v l')

-- where there is room: what stood before the place, the text, and what stood behind it
pub put_shown : {t : List ℕ} {at r : ℕ} {l l' : List ℕ} → Put t at l l' r → at + length t ≤ length l → l' ≡ take at l ++ (t ++ drop (at + length t) l)
unfolding stored
put_shown {t} {at} {r} {l} p h = p.made ∙ sets-eq t l at h ∙ append_assoc (take at l) t (drop (at + length t) l)

-- what a buffer's first bytes are, when a text was put at its start
pub put_taken : {t : List ℕ} {r : ℕ} {l l' : List ℕ} → Put t 0 l l' r → length t ≤ length l → take r l' ≡ t
put_taken {t} {r} {l} {l'} p h =
    let n : r ≡ length t = omega (arith, p.next) in
    let e : l' ≡ t ++ drop (0 + length t) l = put_shown p (omega arith) in
    rw (n, e) (take-append_seam t (drop (0 + length t) l))

-- the same, of a writer that says that its answer counts bytes of the buffer
pub put_counted : {t : List ℕ} {r : ℕ} {l l' : List ℕ} → Put t 0 l l' r → r ≤ length l' → take r l' ≡ t
put_counted p h = put_taken p (omega (arith, p.next, put_length p))

-- ---- a text where there is room
pub given_yes : {b : Bool} {t : List ℕ} {at r : ℕ} {l l' : List ℕ} → b ≡ true → Put t at l l' r → Put (given b t) at l l' r
unfolding given
given_yes e p = rw e p

pub given_no : {b : Bool} (t : List ℕ) (at : ℕ) (l : List ℕ) → b ≡ false → Put (given b t) at l l at
unfolding given
given_no t at l e = rw e (put_nothing at l)

-- a writer that asks for just the room of its text, where there is that room
pub given_room : {at r : ℕ} {l l' : List ℕ} (t : List ℕ) → at + length t ≤ length l → Put (given (leb (at + length t) (length l)) t) at l l' r → Put t at l l' r
unfolding given
given_room {at} {r} {l} t h p = rw (le-leb (at + length t) (length l) h) at p
