-- The table's rows by number, as the code tests for them.
use mathlib.Core.Bool.{Bool, true, false, cond}
use mathlib.Core.Path.{◌≡◌, refl, sym, ap, ◌∙◌}
use Prim.Native.Nat.{ℕ, zero, suc, ◌-◌, ◌%◌, ◌<◌}
use native.Mathlib.Omega.{arith}
use borrow.Author.Tests.{eq-eqb, ne_eqb, le-leb, lt-leb}
use lib.Dec.{eqb}
use lib.ListN.{get_or}
use Rattle.base.specs.Refusal.{refusal_in, number_of as number_of-refusal}
use Rattle.base.specs.declared.refusal.Refusal.{Refusal}
use Rattle.base.specs.declared.refusal.Refusal.TheVariants.{UnknownKind}
use Rattle.std.specs.Prelude.{Result, Ok, Err}
use Rattle.std.specs.Result.{IsErr, IsErrAnd}
use Rattle.fills.specs.declared.kinds.Kind.{Kind}
use Rattle.fills.specs.declared.kinds.Kind.TheVariants.{U64, U32, F32, F64, NormalF32, NormalF64, Open01F32, Open01F64}
use Rattle.fills.specs.FillBytes.{refusal_of}
use Rattle.fills.specs.Numbers.{number_of}
use Rattle.fills.specs.Kinds.{kinds, kind_at, is_kind, of, u64s}

-- kind 1 stands for the numbers that are no kind's
pub past_8 : (k : ℕ) → kind_at (suc (suc (suc (suc (suc (suc (suc (suc (suc k))))))))) ≡ of u64s
unfolding kind_at
past_8 k =
    let e : suc (suc (suc (suc (suc (suc (suc (suc (suc k)))))))) - 1 ≡ suc (suc (suc (suc (suc (suc (suc (suc k))))))) = omega arith in
    ap (λ (n : ℕ). get_or kinds n (of u64s)) e

-- ---- the kind that stands for a number
past : (n : ℕ) → 8 < n → is_kind n ≡ false
past n h = simp (le-leb 1 n (omega arith), lt-leb n 8 h)

pub stands_for : (k : ℕ) → kind_at (cond (is_kind k) k 1) ≡ kind_at k
unfolding kind_at
stands_for zero = refl
stands_for (suc zero) = refl
stands_for (suc (suc zero)) = refl
stands_for (suc (suc (suc zero))) = refl
stands_for (suc (suc (suc (suc zero)))) = refl
stands_for (suc (suc (suc (suc (suc zero))))) = refl
stands_for (suc (suc (suc (suc (suc (suc zero)))))) = refl
stands_for (suc (suc (suc (suc (suc (suc (suc zero))))))) = refl
stands_for (suc (suc (suc (suc (suc (suc (suc (suc zero)))))))) = refl
stands_for (suc (suc (suc (suc (suc (suc (suc (suc (suc k))))))))) =
    ap (λ (b : Bool). kind_at (cond b (suc (suc (suc (suc (suc (suc (suc (suc (suc k))))))))) 1)) (past (suc (suc (suc (suc (suc (suc (suc (suc (suc k))))))))) (omega arith)) ∙ sym (past_8 k)

-- ---- the refusal for n bytes, by the tests that the code makes
module _ (k n : ℕ) {b : Bool} (e : b ≡ is_kind k) where
  of_length : ℕ
  of_length = cond (eqb (n % (kind_at k).kind.width) 0) 0 5

  pub refused-kind : b ≡ false → 4 ≡ refusal_of k n
  unfolding refusal_of of_length
  refused-kind z = ap (λ (x : Bool). cond x of_length 4) (sym z ∙ e)

  pub accepted : b ≡ true → {w : ℕ} → w ≡ (kind_at k).kind.width → n % w ≡ 0 → 0 ≡ refusal_of k n
  unfolding refusal_of of_length
  accepted z {w} ew h =
      ap (λ (x : Bool). cond x 0 5) (sym (eq-eqb (n % (kind_at k).kind.width) 0 (ap (λ (x : ℕ). n % x) (sym ew) ∙ h))) ∙ ap (λ (x : Bool). cond x of_length 4) (sym z ∙ e)

  pub refused-length : b ≡ true → {w : ℕ} → w ≡ (kind_at k).kind.width → (n % w ≡ 0 → ⊥) → 5 ≡ refusal_of k n
  unfolding refusal_of of_length
  refused-length z {w} ew h =
      ap (λ (x : Bool). cond x 0 5) (sym (ne_eqb (n % (kind_at k).kind.width) 0 (λ q. h (ap (λ (x : ℕ). n % x) ew ∙ q)))) ∙ ap (λ (x : Bool). cond x of_length 4) (sym z ∙ e)

-- ---- the same by what is answered for the number
row_known : (r : Kind) → is_kind (number_of r) ≡ true
row_known U64 = refl
row_known U32 = refl
row_known F32 = refl
row_known F64 = refl
row_known NormalF32 = refl
row_known NormalF64 = refl
row_known Open01F32 = refl
row_known Open01F64 = refl

pub none-passed : (k n : ℕ) (r : Result Kind Refusal) {e : Refusal} → IsErr r × IsErrAnd r (λ x. x ≡ e) → (e ≡ UnknownKind) × (is_kind k ≡ false)
    → refusal_in r ≡ refusal_of k n
none-passed k n (Ok r) p u = absurd p.1
none-passed k n (Err x) p u = ap number_of-refusal (p.1 ∙ u.0) ∙ refused-kind k n (sym u.1) refl

module _ (r : Kind) (k n : ℕ) {w : ℕ} (e : number_of r ≡ k) (ew : w ≡ (kind_at (number_of r)).kind.width) where
  known : true ≡ is_kind k
  known = sym (row_known r) ∙ ap is_kind e

  wide : w ≡ (kind_at k).kind.width
  wide = ew ∙ ap (λ (m : ℕ). (kind_at m).kind.width) e

  pub row-accepted : n % w ≡ 0 → 0 ≡ refusal_of k n
  row-accepted = accepted k n known refl wide

  pub row-refused : (n % w ≡ 0 → ⊥) → 5 ≡ refusal_of k n
  row-refused = refused-length k n known refl wide
