-- What `xs.map(f)` makes of an array, where each call of f leaves f as it is and computes a function of its argument: also where f reads
-- other variables. Assumes nothing.
use mathlib.Core.Path.{◌≡◌, refl, sym, ap, subst, ◌∙◌}
use mathlib.Core.List.{List}
use Prim.Native.Nat.{ℕ, zero, suc, ◌+◌, ◌≤◌, ◌<◌}
use native.Mathlib.Decide.{dec_lt}
use native.Mathlib.Omega.{arith}
use lib.ListN.{get_or}
use denote.Param.Members.{Mut, Called}
use Rattle.std.specs.Array.{IsMapOf, MapsFrom}
use Rattle.base.specs.Table.{table}
use Rattle.base.proofs.Table.{table_same, table-get_or}

module _ {F A B : Type 0} {g : Mut F (A × Unit {0}) B} (f : F) (h : A → B) (d : A) (xs : List A) {n : ℕ} (told : (q : F) (x : A) (y : B) → Called g f (x, tt) y q → (q ≡ f) × (y ≡ h x)) where
  from : (ys : List B) (p : F) (i k : ℕ) → p ≡ f → i + k ≡ n → MapsFrom g p xs ys i k → (e : B) (j : ℕ) → i ≤ j → j < n → get_or ys j e ≡ h (get_or xs j d)
  from ys p i zero s t w e j a b = absurd (omega arith)
  from ys p i (suc k) s t w e j a b = go (told w.0 w.1 w.2 (subst (λ (x : F). Called g x (w.1, tt) w.2 w.0) s w.5)) (dec_lt i j) (from ys w.0 (i + 1) k)
    where
      go : (w.0 ≡ f) × (w.2 ≡ h w.1) → Dec (i < j)
          → (w.0 ≡ f → i + 1 + k ≡ n → MapsFrom g w.0 xs ys (i + 1) k → (e : B) (j : ℕ) → i + 1 ≤ j → j < n → get_or ys j e ≡ h (get_or xs j d))
          → get_or ys j e ≡ h (get_or xs j d)
      go now (yes q) more = more now.0 (omega arith) w.6 e j (omega arith) b
      go now (no q) more =
          let q : j ≡ i = omega arith in
          ap (λ (x : ℕ). get_or ys x e) q ∙ w.4.1 e ∙ now.1 ∙ ap h (sym (w.3.1 d)) ∙ sym (ap (λ (x : ℕ). h (get_or xs x d)) q)

  pub mapped_by : {ys : List B} → IsMapOf g f xs ys n → ys ≡ table n (λ i. h (get_or xs i d))
  mapped_by {ys} w = sym (table-get_or n (h d) ys w.long) ∙ table_same n _ _ (λ i l. from ys f 0 n refl (omega arith) w.each (h d) i (omega arith) l)
