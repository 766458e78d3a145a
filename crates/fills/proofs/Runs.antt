-- Groups of a buffer, several at a time: the groups after the first j are those of the buffer without their draws. For any kind. Assumes nothing.
use mathlib.Core.Path.{◌≡◌, refl, sym, ap, ◌∙◌}
use mathlib.Core.List.{List}
use Prim.Native.Nat.{ℕ, zero, suc, ◌+◌, ◌*◌, ◌≤◌}
use native.Mathlib.Nat.{add-zero, add-suc, add-mul, mul-add}
use native.Mathlib.Omega.{arith}
use lib.ListN.{length, get_or, drop}
use lib.Seq.{get_or-drop}
use Rattle.base.specs.Engine.{draw_of}
use Rattle.base.specs.Stored.{stored}
use Rattle.base.proofs.Stored.{length-stored}
use Rattle.base.proofs.Table.{table_same}
use Rattle.fills.specs.Buffer.{stored_groups}
use Rattle.fills.specs.Fill.{Kind}
use Rattle.fills.proofs.Buffered.{Grouping}

-- draw i of a buffer without its first k draws
pub draw-past : (b : List ℕ) (k i : ℕ) → draw_of (drop (k * 8) b) i ≡ draw_of b (k + i)
unfolding draw_of
draw-past b k i = table_same 8 _ _ (λ r h. get_or-drop (k * 8) b (i * 8 + r) 0 ∙ ap (λ (n : ℕ). get_or b n 0) (omega arith))

module _ {A : Type 0} (K : Kind A) (b : List ℕ) (l : List A) (at : ℕ) where
  length_groups : (n : ℕ) → length (stored_groups K b l at n) ≡ length l
  unfolding stored_groups
  length_groups zero = refl
  length_groups (suc n) = length-stored _ _ _ ∙ length_groups n

  groups_past : (j n : ℕ) → stored_groups K (drop (K.draws * j * 8) b) (stored_groups K b l at j) (at + j * K.places) n ≡ stored_groups K b l at (j + n)
  unfolding stored_groups
  groups_past j zero = ap (stored_groups K b l at) (sym (add-zero j))
  groups_past j (suc n) =
      let place : at + j * K.places + n * K.places ≡ at + (j + n) * K.places = omega (arith, add-mul j n K.places) in
      let draw : (m : ℕ) → K.draws * j + (K.draws * n + m) ≡ K.draws * (j + n) + m = λ m. omega (arith, mul-add K.draws j n) in
      (λ i. stored (groups_past j n i) (place i) (K.group (λ m. (draw-past b (K.draws * j) (K.draws * n + m) ∙ ap (draw_of b) (draw m)) i)))
      ∙ ap (stored_groups K b l at) (sym (add-suc j n))

-- n turns at once of the loop that stores a buffer's groups
pub group-run : {A : Type 0} {K : Kind A} {b : List ℕ} {l : List A} {at q : ℕ} {out out' : List A} {j : ℕ} (n : ℕ) → Grouping K b l at q out j → j + n ≤ q
    → out' ≡ stored_groups K (drop (K.draws * j * 8) b) out (at + j * K.places) n → Grouping K b l at q out' (j + n)
group-run {A} {K} {b} {l} {at} {q} {out} {out'} {j} n P h e =
    let done : out' ≡ stored_groups K b l at (j + n) = e ∙ ap (λ (o : List A). stored_groups K (drop (K.draws * j * 8) b) o (at + j * K.places) n) P.done ∙ groups_past K b l at j n in
    record { upto = h; same = ap length done ∙ length_groups K b l at (j + n); done = done }
