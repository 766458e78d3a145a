-- A fill of one kind as that of its number. For any engine. Assumes nothing.
use mathlib.Core.List.{List}
use mathlib.Core.Bool.{Bool, true, false, ◌&&◌, ◌||◌, true≢false}
use mathlib.Core.Path.{◌≡◌, refl, sym, ap, subst, ◌∙◌}
use Prim.Native.Nat.{ℕ, ◌≤◌}
use Rattle.base.specs.Engine.{Engine}
use native.Mathlib.Omega.{arith}
use borrow.Author.Tests.{eqb-true, eq-eqb, le-leb}
use lib.Dec.{eqb, leb}
use Rattle.fills.specs.Buffer.{bytes_kind, either_f64s}
use Rattle.fills.specs.Fill.{Filled}
use Rattle.fills.specs.Kinds.{AnyKind, kind_at, u64s}
use Rattle.element_bytes.proofs.Ahead.{is_other}

module _ {G : Type 0} {E : Engine G} {g g' : G} {before after : List ℕ} {draws k : ℕ} where
  pub by_number : (n : ℕ) → k ≡ n → Filled E (bytes_kind (kind_at n).kind) g before after draws g'
      → Filled E (bytes_kind (kind_at k).kind) g before after draws g'
  by_number n e F = rw e F

  pub by_other : (k ≡ 2 → ⊥) → (k ≡ 3 → ⊥) → (k ≡ 4 → ⊥) → (k ≡ 5 → ⊥) → (k ≡ 6 → ⊥) → (k ≡ 7 → ⊥) → (k ≡ 8 → ⊥)
      → Filled E (bytes_kind u64s) g before after draws g'
      → Filled E (bytes_kind (kind_at k).kind) g before after draws g'
  by_other p q r s t u v F = subst (λ (K : AnyKind). Filled E (bytes_kind K.kind) g before after draws g')
      (sym (is_other k p q r s t u v)) F

-- kinds 4 and 8, by one fill
module _ {G : Type 0} {E : Engine G} {g g' : G} {before after : List ℕ} {draws : ℕ} (k : ℕ) where
  pub by_either : (eqb k 8 || eqb k 4) ≡ true → Filled E (bytes_kind (either_f64s (eqb k 8))) g before after draws g'
      → Filled E (bytes_kind (kind_at k).kind) g before after draws g'
  unfolding kind_at
  by_either e F = go (eqb k 8) refl e F
    where
      go : (b : Bool) → eqb k 8 ≡ b → (b || eqb k 4) ≡ true → Filled E (bytes_kind (either_f64s b)) g before after draws g'
          → Filled E (bytes_kind (kind_at k).kind) g before after draws g'
      go true p e F = by_number 8 (eqb-true k 8 p) F
      go false p e F = by_number 4 (eqb-true k 4 e) F

-- ---- what is left where the tests fail
pub neither : (k : ℕ) → (eqb k 8 || eqb k 4) ≡ false → (k ≡ 4 → ⊥) × (k ≡ 8 → ⊥)
neither k e = (
  (λ p. true≢false (second (eqb k 8) (eqb k 4) (eq-eqb k 4 p) e)),
  (λ p. true≢false (sym (ap (λ (b : Bool). b || eqb k 4) (eq-eqb k 8 p)) ∙ e)),
)
  where
    second : (a b : Bool) → b ≡ true → (a || b) ≡ false → true ≡ false
    second true b p e = e
    second false b p e = sym p ∙ e

pub outside : (k : ℕ) → (leb 5 k && leb k 7) ≡ false → (k ≡ 5 → ⊥) × (k ≡ 6 → ⊥) × (k ≡ 7 → ⊥)
outside k e = ((λ p. no (omega arith) (omega arith)), (λ p. no (omega arith) (omega arith)), (λ p. no (omega arith) (omega arith)))
  where
    no : 5 ≤ k → k ≤ 7 → ⊥
    no a b = true≢false (sym (simp (le-leb 5 k a, le-leb k 7 b)) ∙ e)
