-- The generator that a tally stands for, and what each call makes of it. Assumes nothing.
use mathlib.Core.Bool.{Bool, true, false, cond}
use mathlib.Core.List.{List}
use mathlib.Core.Path.{◌≡◌, refl, sym, ap, ◌∙◌}
use Prim.Native.Nat.{ℕ, zero, suc, ◌+◌, ◌-◌, ◌*◌, ◌/◌, ◌%◌, ◌^◌, ◌<◌}
use native.Mathlib.Nat.{mod-add-mod}
use native.Mathlib.Omega.{arith}
use borrow.Author.Tests.{eq-eqb, ne_eqb, eqb-true, eqb-false}
use lib.Dec.{eqb}
use lib.ListN.{length, get_or}
use Rattle.base.specs.Iterate.{iterate}
use Rattle.base.specs.Table.{table}
use Rattle.base.proofs.Table.{length-table, table-get_or}
use Rattle.fills.specs.Fill.{round_up}
use Rattle.philox.specs.x8.Machine.{lower_at, upper_at, none8, fresh, sought, holding, past, words_of, next_of, label_of, grouped, left_of}
use Rattle.philox.specs.declared.x8.Label.{Label}
use Rattle.philox.specs.declared.x8.Philox4x32X8.{Philox4x32X8}
use Rattle.history.specs.philox4x32.History.{Tally, counter_of, waits_of, left_at, start, one_draw, one_group, words_at, label_at}

-- the generator by its tally, with the key and stream of s₀
unfoldable pub tallied : Philox4x32X8 → Tally → Philox4x32X8
tallied s₀ t =
    record {
      key = s₀.key;
      stream = s₀.stream;
      counter = counter_of t;
      waiting = waits_of t;
      pending = cond (waits_of t) (upper_at s₀ t.from) none8;
      first = cond (waits_of t) t.from 0;
    }

-- ---- what the constructors return
pub tallied_start : (seed stream : ℕ) → fresh seed stream ≡ tallied (fresh seed stream) start
unfolding tallied fresh counter_of
tallied_start seed stream = refl

-- ---- a draw's words
pub tallied_words : (s₀ : Philox4x32X8) (t : Tally) → words_of (tallied s₀ t) ≡ words_at s₀ t
unfolding tallied words_of words_at lower_at upper_at
tallied_words s₀ t = go (waits_of t) (upper_at s₀ t.from) (lower_at s₀ (counter_of t)) (length-table 8 _)
  where
    go : (b : Bool) (up lo : List ℕ) → length up ≡ 8 → cond b (table 8 (λ i. get_or (cond b up none8) i 0)) lo ≡ cond b up lo
    go true up lo e = table-get_or 8 0 up e
    go false up lo e = refl

-- ---- and its label
pub tallied_label : (s₀ : Philox4x32X8) (t : Tally) → label_of (tallied s₀ t) ≡ label_at t
unfolding tallied label_of
tallied_label s₀ t = go (waits_of t) t.from (counter_of t)
  where
    go : (b : Bool) (from c : ℕ) → ◌≡◌ {A = Label} (record { first = cond b (cond b from 0) c; upper = b })
        (record { first = cond b from c; upper = b })
    go true from c = refl
    go false from c = refl

-- ---- after a draw: an even one hands out what waits and leaves the counter, an odd one takes the counter eight blocks on
even_counter : (t : Tally) (from : ℕ) → t.d % 2 ≡ 1 → counter_of t ≡ counter_of (record { a = t.a; g = t.g; d = t.d + 1; from = from })
unfolding counter_of
even_counter t from e = ap (λ (k : ℕ). (t.a + 8 * (t.g + k)) % 2 ^ 64) (omega arith)

odd_counter : (t : Tally) (from : ℕ) → (t.d % 2 ≡ 1 → ⊥) → past (counter_of t) ≡ counter_of (record { a = t.a; g = t.g; d = t.d + 1; from = from })
unfolding counter_of
odd_counter t from e =
    let h : round_up (t.d + 1) 2 ≡ round_up t.d 2 + 1 = omega arith in
    mod-add-mod (t.a + 8 * (t.g + round_up t.d 2)) (2 ^ 64) 8 ∙ ap (λ (k : ℕ). k % 2 ^ 64) (omega arith)

pub tallied_draw : (s₀ : Philox4x32X8) (t : Tally) → next_of (tallied s₀ t) ≡ tallied s₀ (one_draw t)
unfolding tallied next_of sought holding one_draw upper_at
tallied_draw s₀ t = go (waits_of t) refl
  where
    go : (b : Bool) → waits_of t ≡ b → next_of (tallied s₀ t) ≡ tallied s₀ (one_draw t)
    go true e =
        let o : t.d % 2 ≡ 1 = eqb-true (t.d % 2) 1 e in
        let f : eqb ((t.d + 1) % 2) 1 ≡ false = ne_eqb ((t.d + 1) % 2) 1 (omega arith) in
        rw (e, f, even_counter t t.from o)
    go false e =
        let o = eqb-false (t.d % 2) 1 e in
        let f : eqb ((t.d + 1) % 2) 1 ≡ true = eq-eqb ((t.d + 1) % 2) 1 (omega arith) in
        rw (e, f, odd_counter t (counter_of t) o)

pub tallied_draws : (m : ℕ) (s₀ : Philox4x32X8) (t : Tally) → iterate next_of m (tallied s₀ t) ≡ tallied s₀ (iterate one_draw m t)
unfolding iterate
tallied_draws zero s₀ t = refl
tallied_draws (suc m) s₀ t = ap next_of (tallied_draws m s₀ t) ∙ tallied_draw s₀ (iterate one_draw m t)

-- ---- after a group call, and after a seek
pub tallied_group : (s₀ : Philox4x32X8) (t : Tally) → (grouped (tallied s₀ t)).rng ≡ tallied s₀ (one_group t)
unfolding tallied grouped counter_of
tallied_group s₀ t = ap at (omega arith)
  where
    at : ℕ → Philox4x32X8
    at k =
        record {
          key = s₀.key;
          stream = s₀.stream;
          counter = k;
          waiting = waits_of t;
          pending = cond (waits_of t) (upper_at s₀ t.from) none8;
          first = cond (waits_of t) t.from 0;
        }

pub tallied_seek : (s₀ : Philox4x32X8) (t : Tally) (n : ℕ) → n < 2 ^ 64 → sought (tallied s₀ t) n ≡ tallied s₀ (record { a = n; g = 0; d = 0; from = 0 })
unfolding tallied sought counter_of
tallied_seek s₀ t n h = ap (λ (k : ℕ).
    record { key = s₀.key; stream = s₀.stream; counter = k; waiting = false; pending = none8; first = 0 }) (omega arith)

-- ---- the draws left
odd_one : (d : ℕ) → cond (eqb (d % 2) 1) 1 0 ≡ d % 2
odd_one d = go (eqb (d % 2) 1) refl
  where
    go : (b : Bool) → eqb (d % 2) 1 ≡ b → cond b 1 0 ≡ d % 2
    go true e = sym (eqb-true (d % 2) 1 e)
    go false e = let q = eqb-false (d % 2) 1 e in omega arith

-- 1 for the upper half
pub tallied_half : (t : Tally) → cond (label_at t).upper 1 0 ≡ t.d % 2
tallied_half t = odd_one t.d

pub tallied_left : (s₀ : Philox4x32X8) (t : Tally) → left_of (tallied s₀ t) ≡ left_at t
unfolding tallied left_of
tallied_left s₀ t = ap (λ (k : ℕ). 2 * ((2 ^ 64 - counter_of t) / 8) + k) (odd_one t.d)
