-- The claims of specs/Claims.antt.
use mathlib.Core.Bool.{Bool, true, false, cond, not}
use mathlib.Core.List.{List}
use mathlib.Core.Path.{◌≡◌, refl}
use Rattle.std.proofs.Common.{Option, Some, None}
use Rattle.base.specs.Refusal.{Answer}
use Prim.Native.Nat.{ℕ, ◌+◌, ◌-◌, ◌^◌, ◌≤◌, ◌<◌}
use native.Mathlib.Omega.{arith}
use lib.Dec.{eqb, leb, ltb}
use lib.ListN.{length}
use borrow.Author.Tests.{leb-true, eqb-true, eqb-false}
use Rattle.fills.specs.Kinds.{kinds}
use Rattle.text.proofs.decimal.Theorems.{number_sound}
use Rattle.text.specs.decimal.Number.{read, number_at}
use Rattle.text.specs.declared.decimal.Number.{Number}
use Rattle.order.proofs.Reading.{past, within}
use Rattle.order.specs.Claims.{Accepted, Orders}
use Rattle.order.specs.Order.{engine_of, kind_of, numbered, last_block, last_draw, refused, origin_of, with_draws, with_values, order_of}
use Rattle.order.specs.Words.{starts_with, found}
use Rattle.order.specs.Words as words
use Rattle.order.specs.declared.Order.{Order}

-- ---- what holds in both cases
by_test : {A : Type 0} (P : A → Type 0) (b : Bool) {x y : A} → (b ≡ true → P x) → (b ≡ false → P y) → P (cond b x y)
by_test P true f g = f refl
by_test P false f g = g refl

by_number : {A : Type 0} (P : A → Type 0) (n : Option Number) {none : A} {f : ℕ → A} → P none → ((v i : ℕ) → n ≡ read v i → P (f v)) → P (found none f n)
by_number P (Some n) a b = b n.value n.next refl
by_number P None a b = a

-- ---- the numbers of engines and kinds
abbrev last : ℕ
last = length kinds

engine_known : (s : List ℕ) → engine_of s ≤ 2
unfolding engine_of
engine_known s = by_test (λ e. e ≤ 2) (starts_with words.xoshiro s) (λ _. omega arith) (λ _. by_test (λ e. e ≤ 2) (starts_with words.philox s) (λ _. omega arith) (λ _. omega arith))

kind_known : (s : List ℕ) → kind_of s ≤ last
unfolding kind_of numbered
kind_known s =
    named words.u64 (omega arith) (named words.u32 (omega arith) (named words.f32 (omega arith) (named words.f64 (omega arith)
    (named words.normal_f32 (omega arith) (named words.normal_f64 (omega arith) (named words.open01_f32 (omega arith)
    (named words.open01_f64 (omega arith) by_value)))))))
  where
    named : (w : List ℕ) {x y : ℕ} → x ≤ last → y ≤ last → cond (starts_with w s) x y ≤ last
    named w f g = by_test (λ k. k ≤ last) (starts_with w s) (λ _. f) (λ _. g)

    by_value : numbered s ≤ last
    by_value = by_number (λ k. k ≤ last) (number_at last 0 s 0) (omega arith) (λ v i e. (number_sound last 0 s 0 v i e).1)

some : (n : ℕ) → (n ≡ 0 → ⊥) → 1 ≤ n
some n h = omega arith

-- ---- the parts of an order
not_refused : {n : ℕ} {P : Type 0} → 0 < n → (refused n).refusal ≡ 0 → P
unfolding refused
not_refused h e = absurd (omega arith)

record Started (o : Order) : Type 0 where
  engine : (1 ≤ o.engine) × (o.engine ≤ 2)
  block : o.block ≤ last_block o.engine

started : (engine seed block first : List ℕ) → (origin_of engine seed block first).refusal ≡ 0 → Started (origin_of engine seed block first).value
unfolding origin_of
started engine seed block first =
    let e = engine_of engine in
    by_test Fine (eqb e 0) (λ _. not_refused (omega arith)) (λ q.
    by_number Fine (number_at (2 ^ 64 - 1) 0 seed 0) (not_refused (omega arith)) (λ s i vs.
    by_number Fine (number_at (last_block e) 0 block 0) (not_refused (omega arith)) (λ b j vb.
    by_number Fine (number_at (last_draw e) 0 first 0) (not_refused (omega arith)) (λ f k vf r.
    record { engine = (some e (eqb-false e 0 q), engine_known engine); block = (number_sound (last_block e) 0 block 0 b j vb).1 }))))
  where
    Fine : Answer Order → Type 0
    Fine a = a.refusal ≡ 0 → Started a.value

accepted-at : (o : Order) (kind count : List ℕ) (raw : Bool) → Started o → (with_values o kind count raw).refusal ≡ 0 → Accepted (with_values o kind count raw).value
unfolding with_values with_draws
accepted-at o kind count raw S =
    let k = kind_of kind in
    by_test Fine (eqb k 0) (λ _. not_refused (omega arith)) (λ q.
    by_number Fine (number_at (2 ^ 64 - 1) 0 count 0) (not_refused (omega arith)) (λ c i v.
    by_test Fine (leb (o.first + _) (last_draw o.engine + 1)) (λ t r.
    record {
      engine = S.engine;
      block = S.block;
      count = omega (arith, (number_sound (2 ^ 64 - 1) 0 count 0 c i v).1);
      kind = (some k (eqb-false k 0 q), kind_known kind);
      draws = refl;
      end = leb-true _ _ t;
    })
    (λ _. not_refused (omega arith))))
  where
    Fine : Answer Order → Type 0
    Fine a = a.refusal ≡ 0 → Accepted a.value

pub orders : Orders
unfolding order_of
orders given engine seed block first kind count last =
    let o = origin_of engine seed block first in
    by_test Fine (ltb given 6) (λ _. not_refused (omega arith)) (λ _.
    by_test Fine (ltb 7 given) (λ _. not_refused (omega arith)) (λ _.
    by_test Fine (not (eqb o.refusal 0)) (λ t r. absurd (eqb-false _ 0 (past _ t) r)) (λ t.
    let S = started engine seed block first (eqb-true _ 0 (within _ t)) in
    by_test Fine (eqb given 6) (λ _. accepted-at o.value kind count false S) (λ _.
    by_test Fine (starts_with words.raw last) (λ _. accepted-at o.value kind count true S) (λ _. not_refused (omega arith))))))
  where
    Fine : Answer Order → Type 0
    Fine a = a.refusal ≡ 0 → Accepted a.value
