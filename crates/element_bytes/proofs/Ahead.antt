-- The table's rows by number: a group of each kind as bytes and its draws; the draws of the groups that some bytes begin; and what a map
-- or a group stores where the number is no kind's. Assumes nothing.
use mathlib.Core.List.{List}
use mathlib.Core.Path.{◌≡◌, refl, sym, ap, ◌∙◌, subst}
use Prim.Native.Nat.{ℕ, zero, suc, ◌+◌, ◌-◌, ◌*◌, ◌/◌, ◌<◌, ◌≤◌, min}
use native.Mathlib.Decide.{ℕ_discrete}
use native.Mathlib.Omega.{arith}
use lib.ListN.{length}
use Rattle.base.specs.Stored.{stored}
use Rattle.fills.specs.Buffer.{bytes_kind, groups_ahead, draws_ahead, stored_groups}
use Rattle.fills.specs.Fill.{round_up}
use Rattle.fills.specs.Kinds.{AnyKind, kind_at, of, u64s}
use Rattle.fills.proofs.kinds.Numbers.{past_8}

pub is_other : (k : ℕ) → (k ≡ 2 → ⊥) → (k ≡ 3 → ⊥) → (k ≡ 4 → ⊥) → (k ≡ 5 → ⊥) → (k ≡ 6 → ⊥) → (k ≡ 7 → ⊥) → (k ≡ 8 → ⊥)
    → kind_at k ≡ of u64s
unfolding kind_at
is_other zero a b c d e f g = refl
is_other (suc zero) a b c d e f g = refl
is_other (suc (suc zero)) a b c d e f g = absurd (a refl)
is_other (suc (suc (suc zero))) a b c d e f g = absurd (b refl)
is_other (suc (suc (suc (suc zero)))) a b c d e f g = absurd (c refl)
is_other (suc (suc (suc (suc (suc zero))))) a b c d e f g = absurd (d refl)
is_other (suc (suc (suc (suc (suc (suc zero)))))) a b c d e f g = absurd (e refl)
is_other (suc (suc (suc (suc (suc (suc (suc zero))))))) a b c d e f g = absurd (f refl)
is_other (suc (suc (suc (suc (suc (suc (suc (suc zero)))))))) a b c d e f g = absurd (g refl)
is_other (suc (suc (suc (suc (suc (suc (suc (suc (suc k))))))))) a b c d e f g = past_8 k

-- a kind other than 6: a group is 64 bytes and takes one draw
pub record Single (K : AnyKind) : Type 0 where
  pub bytes : (bytes_kind K.kind).places ≡ 64
  pub draws : K.kind.draws ≡ 1

pub single : (k : ℕ) → (k ≡ 6 → ⊥) → Single (kind_at k)
unfolding kind_at
single zero h = record { bytes = refl; draws = refl }
single (suc zero) h = record { bytes = refl; draws = refl }
single (suc (suc zero)) h = record { bytes = refl; draws = refl }
single (suc (suc (suc zero))) h = record { bytes = refl; draws = refl }
single (suc (suc (suc (suc zero)))) h = record { bytes = refl; draws = refl }
single (suc (suc (suc (suc (suc zero))))) h = record { bytes = refl; draws = refl }
single (suc (suc (suc (suc (suc (suc zero)))))) h = absurd (h refl)
single (suc (suc (suc (suc (suc (suc (suc zero))))))) h = record { bytes = refl; draws = refl }
single (suc (suc (suc (suc (suc (suc (suc (suc zero)))))))) h = record { bytes = refl; draws = refl }
single (suc (suc (suc (suc (suc (suc (suc (suc (suc k))))))))) h = subst Single (sym (past_8 k)) (record { bytes = refl; draws = refl })

module _ (k : ℕ) (h : k ≡ 6 → ⊥) where
  pub single_ahead : (n : ℕ) → groups_ahead (bytes_kind (kind_at k).kind) n ≡ min (round_up n 64) 16
  single_ahead n = λ i. min (round_up n ((single k h).bytes i)) (16 / (single k h).draws i)

  pub single_draws : (n : ℕ) → draws_ahead (bytes_kind (kind_at k).kind) n ≡ min (round_up n 64) 16
  single_draws n = (λ i. (single k h).draws i * single_ahead n i) ∙ omega arith

-- the bytes that a map of the buffer b into l from at on leaves
abbrev mapped : AnyKind → List ℕ → List ℕ → ℕ → List ℕ
mapped K b l at = stored_groups (bytes_kind K.kind) b l at (groups_ahead (bytes_kind K.kind) (length l - at))

pub mapped_other : (k : ℕ) (b l : List ℕ) (at : ℕ) {out : List ℕ} → (k ≡ 2 → ⊥) → (k ≡ 3 → ⊥) → (k ≡ 4 → ⊥) → (k ≡ 5 → ⊥) → (k ≡ 6 → ⊥)
    → (k ≡ 7 → ⊥) → (k ≡ 8 → ⊥) → out ≡ mapped (of u64s) b l at → out ≡ mapped (kind_at k) b l at
mapped_other k b l at p q r s t u v eo = eo ∙ ap (λ (K : AnyKind). mapped K b l at) (sym (is_other k p q r s t u v))

-- the bytes that a group of the draw w leaves in l from at on
abbrev grouped : AnyKind → List ℕ → List ℕ → ℕ → List ℕ
grouped K w l at = stored l at ((bytes_kind K.kind).group (λ _. w))

pub grouped_other : (k : ℕ) (w l : List ℕ) (at : ℕ) {out : List ℕ} → (k ≡ 2 → ⊥) → (k ≡ 3 → ⊥) → (k ≡ 4 → ⊥) → (k ≡ 5 → ⊥) → (k ≡ 6 → ⊥)
    → (k ≡ 7 → ⊥) → (k ≡ 8 → ⊥) → out ≡ grouped (of u64s) w l at → out ≡ grouped (kind_at k) w l at
grouped_other k w l at p q r s t u v eo = eo ∙ ap (λ (K : AnyKind). grouped K w l at) (sym (is_other k p q r s t u v))

pub double_draws : (k : ℕ) → k ≡ 6 → (n : ℕ) → draws_ahead (bytes_kind (kind_at k).kind) n ≡ 2 * min (round_up n 128) 8
unfolding kind_at
double_draws k e n = ap (λ (K : AnyKind). draws_ahead (bytes_kind K.kind) n) (ap kind_at e)

-- ---- a turn of a byte fill: the m draws of the groups that n bytes begin, at most 16, make m * 64 bytes, less than a group more than n
pub record Ahead (k n m : ℕ) : Type 0 where
  pub few : m ≤ 16
  pub bytes : groups_ahead (bytes_kind (kind_at k).kind) n * (bytes_kind (kind_at k).kind).places ≡ m * 64
  pub room : groups_ahead (bytes_kind (kind_at k).kind) n * (bytes_kind (kind_at k).kind).places < n + (bytes_kind (kind_at k).kind).places
  pub near : m * 64 < n + 128
  pub some : 0 < n → 0 < m

ahead_of : (K : AnyKind) (n m p d : ℕ) → (bytes_kind K.kind).places ≡ p → K.kind.draws ≡ d → m ≡ d * min (round_up n p) (16 / d)
    → (groups_ahead (bytes_kind K.kind) n * (bytes_kind K.kind).places ≡ min (round_up n p) (16 / d) * p) × ((bytes_kind K.kind).places ≡ p)
ahead_of K n m p d ep ed em = ((λ i. min (round_up n (ep i)) (16 / ed i) * ep i), ep)

pub ahead : (k n m : ℕ) → m ≡ draws_ahead (bytes_kind (kind_at k).kind) n → Ahead k n m
unfolding kind_at
ahead k n m e = elim (ℕ_discrete k 6) [ yes y ↦ double y | no h ↦ one h ]
  where
    double : k ≡ 6 → Ahead k n m
    double y =
        let p = ap (λ (K : AnyKind). (bytes_kind K.kind).places) (ap kind_at y) in
        let d = ap (λ (K : AnyKind). K.kind.draws) (ap kind_at y) in
        let e' : m ≡ 2 * min (round_up n 128) 8 = e ∙ double_draws k y n in
        let a = ahead_of (kind_at k) n m 128 2 p d e' in
        record {
          few = omega (arith, e');
          bytes = a.0 ∙ omega (arith, e');
          room = omega (arith, a.0, a.1, e');
          near = omega (arith, e');
          some = λ s. omega (arith, e');
        }

    one : (k ≡ 6 → ⊥) → Ahead k n m
    one h =
        let a = ahead_of (kind_at k) n m 64 1 (single k h).bytes (single k h).draws (e ∙ single_draws k h n ∙ omega arith) in
        let e' : m ≡ min (round_up n 64) 16 = e ∙ single_draws k h n in
        record {
          few = omega (arith, e');
          bytes = a.0 ∙ omega (arith, e');
          room = omega (arith, a.0, a.1, e');
          near = omega (arith, e');
          some = λ s. omega (arith, e');
        }
