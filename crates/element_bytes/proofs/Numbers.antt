-- The bytes of a kind, by its number. Assumes nothing.
use mathlib.Core.Bool.{cond}
use mathlib.Core.List.{List}
use mathlib.Core.Path.{◌≡◌, sym, ap, ◌∙◌}
use Prim.Native.Nat.{ℕ, ◌-◌, ◌*◌, ◌/◌, min}
use lib.ListN.{length}
use Rattle.base.specs.Stored.{stored}
use Rattle.fills.specs.Buffer.{bytes_kind, groups_ahead, draws_ahead, stored_groups}
use Rattle.fills.specs.Fill.{round_up}
use Rattle.fills.specs.Kinds.{AnyKind, kind_at, is_kind}
use Rattle.fills.proofs.kinds.Numbers.{stands_for}

-- the bytes that a map of the buffer b into l from at on leaves
abbrev mapped : AnyKind → List ℕ → List ℕ → ℕ → List ℕ
mapped K b l at = stored_groups (bytes_kind K.kind) b l at (groups_ahead (bytes_kind K.kind) (length l - at))

pub mapped_by : (k : ℕ) (b l : List ℕ) (at : ℕ) {out : List ℕ} (n : ℕ) → k ≡ n → out ≡ mapped (kind_at n) b l at → out ≡ mapped (kind_at k) b l at
mapped_by k b l at n e eo = eo ∙ ap (λ (m : ℕ). mapped (kind_at m) b l at) (sym e)

-- and of the row that stands for k
pub mapped_for : (k : ℕ) (b l : List ℕ) (at : ℕ) {out : List ℕ} (n : ℕ) → n ≡ cond (is_kind k) k 1 → out ≡ mapped (kind_at n) b l at
    → out ≡ mapped (kind_at k) b l at
mapped_for k b l at n e eo = eo ∙ ap (λ (K : AnyKind). mapped K b l at) (ap kind_at e ∙ stands_for k)

-- the bytes that a group of the draw w leaves in l from at on
abbrev grouped : AnyKind → List ℕ → List ℕ → ℕ → List ℕ
grouped K w l at = stored l at ((bytes_kind K.kind).group (λ _. w))

pub grouped_by : (k : ℕ) (w l : List ℕ) (at : ℕ) {out : List ℕ} (n : ℕ) → n ≡ cond (is_kind k) k 1 → out ≡ grouped (kind_at n) w l at → out ≡ grouped (kind_at k) w l at
grouped_by k w l at n e eo = eo ∙ ap (λ (K : AnyKind). grouped K w l at) (ap kind_at e ∙ stands_for k)

-- the draws of the groups that m places begin, of the row that stands for k
pub drawn_for : (k m : ℕ) {d g p q : ℕ} (n : ℕ) → n ≡ cond (is_kind k) k 1 → d ≡ (bytes_kind (kind_at n).kind).draws
    → p ≡ (bytes_kind (kind_at n).kind).places → q ≡ 16 / (bytes_kind (kind_at n).kind).draws → g ≡ min (round_up m p) q
    → d * g ≡ draws_ahead (bytes_kind (kind_at k).kind) m
drawn_for k m {d} n e ed ep eq eg =
    ap (λ (g : ℕ). d * g) eg ∙ (λ i. ed i * min (round_up m (ep i)) (eq i))
    ∙ ap (λ (K : AnyKind). draws_ahead (bytes_kind K.kind) m) (ap kind_at e ∙ stands_for k)
