-- What the reading of an order answers, by what each step finds.
use Rattle.std.proofs.Common.{◌≡◌, ℕ, cond, eqb, eqb-true, ◌+◌, ◌-◌, ◌^◌, ◌≤◌, ◌<◌, Bool, true, false, not, leb, List, Option, Some, None, refl, sym, ap, ◌∙◌, arith, eq-eqb, ne_eqb, lt-ltb, le-ltb}
use borrow.Author.Tests.{eqb-false}
use Rattle.base.specs.Refusal.{Answer}
use Rattle.text.specs.decimal.Number.{number_at}
use Rattle.fills.specs.Fill.{draws_for}
use Rattle.fills.specs.Kinds.{kind_at}
use Rattle.std.specs.List.{starts_with as begins_with}
use Rattle.order.specs.Faults.{number_of, number_of_engine, blank, started}
use Rattle.order.specs.Words.{raw, number}
use Rattle.order.specs.Order.{engine_of, kind_of, nonzero, last_block, last_draw, refused, fine, origin_of, with_draws, with_values, order_of}
use Rattle.order.specs.declared.Engine as engines
use Rattle.order.specs.declared.Engine.TheVariants.{Xoshiro, Philox}
use Rattle.order.specs.declared.Fault.{Fault}
use Rattle.order.specs.declared.Fault.TheVariants.{Engine, Seed, Block, First, Kind, Count, Last, Draws, Arguments}
use Rattle.order.specs.declared.Order.{Order}
use Rattle.order.proofs.Laws.{begins, found_none, found_some}

abbrev failed : ℕ → Answer Order
failed n = record { refusal = n; value = blank }

-- a number read under a bound that a function computed
pub reads : (s : List ℕ) {t top : ℕ} {x : Option ℕ} → t ≡ top → x ≡ number t s None (λ v. Some v) → x ≡ number top s None (λ v. Some v)
reads s q e = e ∙ ap (λ (n : ℕ). number n s None (λ v. Some v)) q

some_engine : (e : engines.Engine) → number_of_engine e ≡ 0 → ⊥
some_engine Xoshiro z = omega arith
some_engine Philox z = omega arith

some_fault : (f : Fault) → number_of f ≡ 0 → ⊥
some_fault Engine z = omega arith
some_fault Seed z = omega arith
some_fault Block z = omega arith
some_fault First z = omega arith
some_fault Kind z = omega arith
some_fault Count z = omega arith
some_fault Last z = omega arith
some_fault Draws z = omega arith
some_fault Arguments z = omega arith

-- ---- where an order starts
module _ (engine seed block first : List ℕ) where
  pub no_engine : 0 ≡ engine_of engine → failed 1 ≡ origin_of engine seed block first
  unfolding origin_of refused
  no_engine q = rw (← q) refl

  module _ (e : engines.Engine) (q : number_of_engine e ≡ engine_of engine) where
    pub no_seed : None ≡ number (2 ^ 64 - 1) seed None (λ v. Some v) → failed 2 ≡ origin_of engine seed block first
    unfolding origin_of refused
    no_seed w = rw (← q, ne_eqb _ 0 (some_engine e)) (sym (found_none (number_at (2 ^ 64 - 1) 0 seed 0) _ w))

    module _ {s : ℕ} (vs : Some s ≡ number (2 ^ 64 - 1) seed None (λ v. Some v)) where
      pub no_block : None ≡ number (last_block (number_of_engine e)) block None (λ v. Some v) → failed 3 ≡ origin_of engine seed block first
      unfolding origin_of refused
      no_block w =
          rw (← q, ne_eqb _ 0 (some_engine e))
          (sym (found_some (number_at (2 ^ 64 - 1) 0 seed 0) _ _ vs ∙ found_none (number_at (last_block (number_of_engine e)) 0 block 0) _ w))

      module _ {b : ℕ} (vb : Some b ≡ number (last_block (number_of_engine e)) block None (λ v. Some v)) where
        pub no_first : None ≡ number (last_draw (number_of_engine e)) first None (λ v. Some v) → failed 4 ≡ origin_of engine seed block first
        unfolding origin_of refused
        no_first w =
            rw (← q, ne_eqb _ 0 (some_engine e))
            (sym (found_some (number_at (2 ^ 64 - 1) 0 seed 0) _ _ vs
            ∙ found_some (number_at (last_block (number_of_engine e)) 0 block 0) _ _ vb
            ∙ found_none (number_at (last_draw (number_of_engine e)) 0 first 0) _ w))

        pub begun_at : {f : ℕ} → Some f ≡ number (last_draw (number_of_engine e)) first None (λ v. Some v)
            → fine (started (record { engine = e; seed = s; block = b; first = f })) ≡ origin_of engine seed block first
        unfolding origin_of refused
        begun_at vf =
            rw (← q, ne_eqb _ 0 (some_engine e))
            (sym (found_some (number_at (2 ^ 64 - 1) 0 seed 0) _ _ vs
            ∙ found_some (number_at (last_block (number_of_engine e)) 0 block 0) _ _ vb
            ∙ found_some (number_at (last_draw (number_of_engine e)) 0 first 0) _ _ vf))

pub past : (x : Bool) → not x ≡ true → x ≡ false
past false e = refl
past true e = sym e

pub within : (x : Bool) → not x ≡ false → x ≡ true
within true e = refl
within false e = sym e

module _ (o : Order) (k n : ℕ) (as-raw : Bool) {d t : ℕ} (qd : d ≡ draws_for (kind_at k).kind n) (qt : t ≡ last_draw o.engine) where
  pub draws-past : true ≡ not (leb (o.first + d) (t + 1)) → failed 8 ≡ with_draws o k n as-raw
  unfolding with_draws refused
  draws-past e = rw (← qd, ← qt, past (leb (o.first + d) (t + 1)) (sym e)) refl

  pub draws_there : {e : ℕ} → e ≡ o.engine → false ≡ not (leb (o.first + d) (t + 1))
      → fine (record { engine = e; seed = o.seed; block = o.block; first = o.first; kind = k; count = n; draws = d; raw = as-raw }) ≡ with_draws o k n as-raw
  unfolding with_draws
  draws_there q e = rw (q, ← qd, ← qt, within (leb (o.first + d) (t + 1)) (sym e)) refl

-- ---- a kind that there is, or none
nonzero_none : (k : ℕ) → None ≡ nonzero k → k ≡ 0
nonzero_none k e = go (eqb k 0) refl e
  where
    go : (b : Bool) → eqb k 0 ≡ b → None ≡ cond b None (Some k) → k ≡ 0
    go true q e = eqb-true k 0 q
    go false q e = absurd cc

nonzero_some : (k : ℕ) {v : ℕ} → Some v ≡ nonzero k → (k ≡ v) × (k ≡ 0 → ⊥)
nonzero_some k {v} e = go (eqb k 0) refl e
  where
    go : (b : Bool) → eqb k 0 ≡ b → Some v ≡ cond b None (Some k) → (k ≡ v) × (k ≡ 0 → ⊥)
    go true q e = absurd cc
    go false q e = (cc, eqb-false k 0 q)

module _ (o : Order) (kind count : List ℕ) (as-raw : Bool) where
  pub no_kind : None ≡ nonzero (kind_of kind) → failed 5 ≡ with_values o kind count as-raw
  unfolding with_values refused
  no_kind e = rw (eq-eqb (kind_of kind) 0 (nonzero_none _ e)) refl

  pub no_count : {k : ℕ} → Some k ≡ nonzero (kind_of kind) → None ≡ number (2 ^ 64 - 1) count None (λ v. Some v) → failed 6 ≡ with_values o kind count as-raw
  unfolding with_values refused
  no_count e w =
      rw (ne_eqb (kind_of kind) 0 (nonzero_some _ e).1) (sym (found_none (number_at (2 ^ 64 - 1) 0 count 0) _ w))

  pub values_of : {k n : ℕ} → Some k ≡ nonzero (kind_of kind) → Some n ≡ number (2 ^ 64 - 1) count None (λ v. Some v)
      → with_draws o k n as-raw ≡ with_values o kind count as-raw
  unfolding with_values
  values_of {k} {n} e w =
      let q = nonzero_some (kind_of kind) e in
      rw (ne_eqb (kind_of kind) 0 q.1)
      (ap (λ (m : ℕ). with_draws o m n as-raw) (sym q.0) ∙ sym (found_some (number_at (2 ^ 64 - 1) 0 count 0) _ _ w))

module _ (n : ℕ) (engine seed block first kind count last : List ℕ) where
  pub too_few : n < 6 → failed 9 ≡ order_of n engine seed block first kind count last
  unfolding order_of refused
  too_few h = rw (lt-ltb n 6 h) refl

  module _ (l : 6 ≤ n) where
    pub too_many : 7 < n → failed 9 ≡ order_of n engine seed block first kind count last
    unfolding order_of refused
    too_many h = rw (le-ltb n 6 l, lt-ltb 7 n h) refl

    module _ (m : n ≤ 7) where
      pub no_start : (f : Fault) → failed (number_of f) ≡ origin_of engine seed block first → failed (number_of f) ≡ order_of n engine seed block first kind count last
      unfolding order_of
      no_start f q = rw (le-ltb n 6 l, le-ltb 7 n m, ← q, ne_eqb _ 0 (some_fault f)) refl

      module _ {o : Order} (q : fine o ≡ origin_of engine seed block first) where
        pub six : n ≡ 6 → with_values o kind count false ≡ order_of n engine seed block first kind count last
        unfolding order_of
        six e = rw (le-ltb n 6 l, le-ltb 7 n m, ← q, eq-eqb n 6 e) refl

        module _ (h : n ≡ 6 → ⊥) where
          pub seven : true ≡ begins_with eqb last raw → with_values o kind count true ≡ order_of n engine seed block first kind count last
          unfolding order_of
          seven e = rw (le-ltb n 6 l, le-ltb 7 n m, ← q, ne_eqb n 6 h, ← begins last raw, ← e) refl

          pub no_raw : false ≡ begins_with eqb last raw → failed 7 ≡ order_of n engine seed block first kind count last
          unfolding order_of refused
          no_raw e = rw (le-ltb n 6 l, le-ltb 7 n m, ← q, ne_eqb n 6 h, ← begins last raw, ← e) refl
