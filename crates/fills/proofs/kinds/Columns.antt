-- The columns of the table by a kind's number: the bytes of an element, and the draws of n places. Assumes nothing.
use mathlib.Core.Path.{◌≡◌, refl, sym, ap, ◌∙◌}
use Prim.Native.Nat.{ℕ, zero, suc, ◌*◌}
use native.Mathlib.Omega.{arith}
use Rattle.fills.specs.Fill.{round_up, draws_for}
use Rattle.fills.specs.Kinds.{AnyKind, kind_at, u64s}
use Rattle.fills.proofs.kinds.Numbers.{past_8}

-- ---- an element's bytes
pub width_4 : (k n : ℕ) → k ≡ n → (kind_at n).kind.width ≡ 4 → 4 ≡ (kind_at k).kind.width
width_4 k n e q = sym (ap (λ (m : ℕ). (kind_at m).kind.width) e ∙ q)

-- kinds 1, 4, 6 and 8, and numbers that are no kind's: 8
pub width_8 : (k : ℕ) → (k ≡ 2 → ⊥) → (k ≡ 3 → ⊥) → (k ≡ 5 → ⊥) → (k ≡ 7 → ⊥) → 8 ≡ (kind_at k).kind.width
unfolding kind_at
width_8 zero a b c d = refl
width_8 (suc zero) a b c d = refl
width_8 (suc (suc zero)) a b c d = absurd (a refl)
width_8 (suc (suc (suc zero))) a b c d = absurd (b refl)
width_8 (suc (suc (suc (suc zero)))) a b c d = refl
width_8 (suc (suc (suc (suc (suc zero))))) a b c d = absurd (c refl)
width_8 (suc (suc (suc (suc (suc (suc zero)))))) a b c d = refl
width_8 (suc (suc (suc (suc (suc (suc (suc zero))))))) a b c d = absurd (d refl)
width_8 (suc (suc (suc (suc (suc (suc (suc (suc zero)))))))) a b c d = refl
width_8 (suc (suc (suc (suc (suc (suc (suc (suc (suc k))))))))) a b c d = ap (λ (L : AnyKind). L.kind.width) (sym (past_8 k))

-- ---- the draws of n places: kind 6; elements of 4 bytes; the others
pub draws_6 : (k n : ℕ) → k ≡ 6 → 2 * round_up n 16 ≡ draws_for (kind_at k).kind n
unfolding kind_at
draws_6 k n e = ap (λ (m : ℕ). draws_for (kind_at m).kind n) (sym e)

not_4 : ◌≡◌ {A = ℕ} 8 4 → ⊥
not_4 e = omega arith

pub draws_4 : (k n : ℕ) → (kind_at k).kind.width ≡ 4 → round_up n 16 ≡ draws_for (kind_at k).kind n
unfolding kind_at
draws_4 zero n e = absurd (not_4 e)
draws_4 (suc zero) n e = absurd (not_4 e)
draws_4 (suc (suc zero)) n e = omega arith
draws_4 (suc (suc (suc zero))) n e = omega arith
draws_4 (suc (suc (suc (suc zero)))) n e = absurd (not_4 e)
draws_4 (suc (suc (suc (suc (suc zero))))) n e = omega arith
draws_4 (suc (suc (suc (suc (suc (suc zero)))))) n e = absurd (not_4 e)
draws_4 (suc (suc (suc (suc (suc (suc (suc zero))))))) n e = omega arith
draws_4 (suc (suc (suc (suc (suc (suc (suc (suc zero)))))))) n e = absurd (not_4 e)
draws_4 (suc (suc (suc (suc (suc (suc (suc (suc (suc k))))))))) n e =
    absurd (not_4 (ap (λ (L : AnyKind). L.kind.width) (sym (past_8 k)) ∙ e))

pub draws_8 : (k n : ℕ) → (k ≡ 6 → ⊥) → ((kind_at k).kind.width ≡ 4 → ⊥) → round_up n 8 ≡ draws_for (kind_at k).kind n
unfolding kind_at
draws_8 zero n h w = omega arith
draws_8 (suc zero) n h w = omega arith
draws_8 (suc (suc zero)) n h w = absurd (w refl)
draws_8 (suc (suc (suc zero))) n h w = absurd (w refl)
draws_8 (suc (suc (suc (suc zero)))) n h w = omega arith
draws_8 (suc (suc (suc (suc (suc zero))))) n h w = absurd (w refl)
draws_8 (suc (suc (suc (suc (suc (suc zero)))))) n h w = absurd (h refl)
draws_8 (suc (suc (suc (suc (suc (suc (suc zero))))))) n h w = absurd (w refl)
draws_8 (suc (suc (suc (suc (suc (suc (suc (suc zero)))))))) n h w = omega arith
draws_8 (suc (suc (suc (suc (suc (suc (suc (suc (suc k))))))))) n h w =
    let one : round_up n 8 ≡ draws_for u64s n = omega arith in
    one ∙ ap (λ (L : AnyKind). draws_for L.kind n) (sym (past_8 k))
