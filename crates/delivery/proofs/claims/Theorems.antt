-- The claims of specs/claims/Claims.antt.
use Rattle.std.proofs.Common.{◌≡◌, ℕ, zero, suc, ◌+◌, ◌-◌, ◌*◌, ◌^◌, ◌<◌, ◌≤◌, Bool, true, ◌&&◌, eqb, leb, List, ◌++◌, get_or, sym, ap, ◌∙◌, subst, mul-div_cancel, arith, eq-eqb, le-leb}
use mathlib.Core.Path.{fun_ext}
use Rattle.base.specs.Iterate.{iterate}
use Rattle.base.specs.Put.{given}
use Rattle.base.proofs.Iterate.{iterate-then}
use Rattle.fills.specs.Fill.{draws_for}
use Rattle.fills.specs.FillBytes.{bytes_written, bytes_draws}
use Rattle.fills.specs.Kinds.{kinds, kind_at, of, u64s}
use Rattle.fills.proofs.Sounds.{row}
use Rattle.fills.proofs.Theorems.{only_its_draws}
use Rattle.text.specs.lines.Lines.{ends_of}
use Rattle.order.specs.Claims.{Accepted}
use Rattle.order.specs.Order.{last_block, last_draw}
use Rattle.order.specs.declared.Order.{Order}
use Rattle.delivery.specs.source.Places.{place_of}
use Rattle.delivery.specs.source.Source.{words_of, next_of, start_of}
use Rattle.delivery.proofs.source.Theorems.{one_word_each}
use Rattle.delivery.specs.declared.parts.Delivery.{Delivery}
use Rattle.delivery.specs.parts.Claims.{Call, rest_of, ordered}
use Rattle.delivery.specs.parts.Delivery.{width_of, begun, shown, draws_in, closing_of}
use Rattle.delivery.proofs.parts.Theorems.{two_orders, joined, stops}
use Rattle.delivery.specs.claims.Claims.{Whole, Raw, Text, Ends, Closes, Finishes, Resumes, bytes_of}
use Rattle.delivery.specs.claims.Claims.{Reads, ReadsOnlyItsDraws, Apart, blocks, before, behind, NoDrawTwice}

pub raw : Raw
raw o calls e w = (joined (begun o) calls w.run w.end).handed ∙ ap (λ (b : Bool). shown b o.kind (bytes_of o)) e

pub text : Text
text o calls e w = (joined (begun o) calls w.run w.end).handed ∙ ap (λ (b : Bool). shown b o.kind (bytes_of o)) e

-- the order's draws are those of its bytes
draws-of : (o : Order) → Accepted o → bytes_draws o.kind (o.count * width_of o.kind) ≡ o.draws
unfolding bytes_draws
draws-of o A = ap (draws_for (kind_at o.kind).kind) (mul-div_cancel o.count (row o.kind).wide) ∙ sym A.draws

pub ends : Ends
ends o calls A w =
    (joined (begun o) calls w.run w.end).source
    ∙ ap (λ (n : ℕ). iterate next_of n (begun o).source) (draws-of o A)
    ∙ sym (iterate-then next_of o.first o.draws (start_of o.engine o.seed o.block))

-- less than 2^64 places have less than 2^64 draws
few_at : (i n : ℕ) → n < 2 ^ 64 → draws_for (get_or kinds i (of u64s)).kind n < 2 ^ 64
few_at zero n h = omega arith
few_at (suc zero) n h = omega arith
few_at (suc (suc zero)) n h = omega arith
few_at (suc (suc (suc zero))) n h = omega arith
few_at (suc (suc (suc (suc zero)))) n h = omega arith
few_at (suc (suc (suc (suc (suc zero))))) n h = omega arith
few_at (suc (suc (suc (suc (suc (suc zero)))))) n h = omega arith
few_at (suc (suc (suc (suc (suc (suc (suc zero))))))) n h = omega arith
few_at (suc (suc (suc (suc (suc (suc (suc (suc i)))))))) n h = omega arith

few_draws : (o : Order) → Accepted o → o.draws < 2 ^ 64
unfolding kind_at
few_draws o A = subst (λ (n : ℕ). n < 2 ^ 64) (sym A.draws) (few_at (o.kind - 1) o.count A.count)

-- the draws that were counted
counted : (o : Order) (calls : List Call) → Accepted o → Whole o calls → (rest_of (begun o) calls).draws ≡ o.draws
counted o calls A w =
    let d = draws-of o A in
    let n : ℕ = draws_in (begun o) o.count in
    omega (arith, (joined (begun o) calls w.run w.end).draws (omega (arith, d, few_draws o A)), d)

pub closes : Closes
unfolding closing_of given
closes o calls room A w h =
    let W = joined (begun o) calls w.run w.end in
    let d : Delivery = rest_of (begun o) calls in
    let t : eqb d.left 0 && leb 42 room ≡ true = (λ i. eq-eqb d.left 0 w.end i && le-leb 42 room h i) in
    let first = W.first in
    let draws = counted o calls A w in
    ap (λ (b : Bool). given b (ends_of d.first d.draws)) t ∙ (λ i. ends_of (first i) (draws i))

pub finishes : Finishes
finishes o calls A r u = omega (arith, stops (begun o) calls A.kind.0 A.kind.1 r u)

pub resumes : Resumes
resumes o n A e =
    let f = shown o.raw o.kind in
    two_orders o.raw o.engine o.seed o.block o.first o.kind o.count n e
    ∙ ap (λ (m : ℕ). f (bytes_of o) ++ f (ordered o.engine o.seed o.block (o.first + m) o.kind n)) (draws-of o A)

-- ---- which draws an order reads
pub reads_only_its_draws : ReadsOnlyItsDraws
reads_only_its_draws o A =
    let k : ℕ = o.kind in
    let n : ℕ = o.count * width_of k in
    let S = start_of o.engine o.seed o.block in
    record {
      own = ap (λ (W : ℕ → List ℕ). bytes_written k W n) (fun_ext (λ m. ap words_of (sym (iterate-then next_of o.first m S))));
      only = λ U W same. (only_its_draws k n (λ m. U (o.first + m)) (λ m. W (o.first + m))).1
          (λ m h. same (o.first + m) (record { from = omega arith; until = omega (arith, draws-of o A) }));
    }

-- a draw that an accepted order reads is one of its engine's
last_read : (o : Order) (i : ℕ) → Accepted o → Reads o i → i ≤ last_draw o.engine
last_read o i A R = omega (arith, A.end, R.until)

-- orders that lie apart have no draw of one block in common
not_both : (o p : Order) (i : ℕ) → o.block ≡ p.block → Apart o p → Reads o i → Reads p i → ⊥
not_both o p i e (blocks h) R S = h e
not_both o p i e (before h) R S = omega (arith, R.until, S.from)
not_both o p i e (behind h) R S = omega (arith, R.from, S.until)

pub no_draw_twice : NoDrawTwice
no_draw_twice o p A B e apart i k j l R S hj hl q =
    let same = ap (λ (x : ℕ). place_of x p.block k l) (sym e) in
    let block_within = subst (λ (x : ℕ). p.block ≤ last_block x) (sym e) B.block in
    let last-draw = subst (λ (x : ℕ). k ≤ last_draw x) (sym e) (last_read p k B S) in
    let one =
    one_word_each o.engine o.block p.block i k j l A.block block_within (last_read o i A R) last-draw hj hl (q ∙ same) in
    not_both o p i one.0 apart R (subst (Reads p) (sym one.1) S)
