-- The claims of specs/philox4x32. Assumes nothing.
use mathlib.Core.Bool.{Bool, true, false, cond}
use mathlib.Core.List.{List, ◌∷◌}
use mathlib.Core.Path.{◌≡◌, refl, sym, ap, ap₂, ◌∙◌}
use Prim.Native.Nat.{ℕ, zero, suc, ◌+◌}
use native.Mathlib.Omega.{arith}
use lib.ListN.{length}
use Rattle.base.specs.Iterate.{iterate}
use Rattle.base.specs.Refused.{unless}
use Rattle.base.proofs.Iterate.{iterate_keeps}
use Rattle.base.proofs.Lists.{along}
use Rattle.base.proofs.Table.{length-table}
use Rattle.fills.specs.Claims.{Eights}
use Rattle.fills.specs.Fill.{draws_for}
use Rattle.fills.proofs.Handed.{right_fill, right_bytes, draws-made, draws-reported}
use Rattle.philox.specs.x8.Machine.{lower_at, upper_at, words_of, next_of, drawn, grouped, sought, label_of, left_of}
use Rattle.philox.specs.declared.x8.Blocks.{Blocks}
use Rattle.philox.specs.declared.x8.Draw.{Draw}
use Rattle.philox.specs.declared.x8.Label.{Label}
use Rattle.philox.specs.declared.x8.Philox4x32X8.{Philox4x32X8}
use Rattle.philox_fills.specs.Labelled.{no_label}
use Rattle.saved.specs.philox4x32.Claims.{Restored}
use Rattle.saved.proofs.philox4x32.Sound.{Sound, restored, sound_fresh, sound_sought, sound_next, sound_grouped, sound_loaded}
use Rattle.history.specs.philox4x32.Calls.{Call, draw, group, seek, fill, bytes, many, skip, Step, rng_of, rng_after, Run}
use Rattle.history.specs.philox4x32.History.{Tally, waits_of, start, one_draw, tally_after, tally, reported_after}
use Rattle.history.specs.philox4x32.History.{reported, words_at, label_at, Right}
use Rattle.history.specs.philox4x32.History.{AllRight, DrawsAddUp, Restores, DrawsCount, RowsInLists}
use Rattle.history.specs.philox4x32.Shipped.{PhiloxShips}
use Rattle.history.proofs.Draws.{right_draws}
use Rattle.history.proofs.Rows.{rows}
use Rattle.history.proofs.philox4x32.Tallied.{tallied, tallied_start, tallied_words, tallied_label, tallied_draw}
use Rattle.history.proofs.philox4x32.Tallied.{tallied_draws, tallied_group, tallied_seek, tallied_left}

pub draws-count : DrawsCount
unfolding iterate one_draw
draws-count zero t = (omega arith, refl, refl)
draws-count (suc n) t =
    let w = draws-count n t in
    (omega (arith, w.0), w.1, w.2)

-- ---- one call, on the generator s that the tally t stands for: the generator after it, what it handed out, and what it reported
module _ (s₀ : Philox4x32X8) (t : Tally) {s : Philox4x32X8} (e : s ≡ tallied s₀ t) where
  drawn-words : (m : ℕ) → words_of (iterate next_of m s) ≡ words_at s₀ (iterate one_draw m t)
  drawn-words m =
      ap (λ (x : Philox4x32X8). words_of (iterate next_of m x)) e
      ∙ ap words_of (tallied_draws m s₀ t)
      ∙ tallied_words s₀ (iterate one_draw m t)

  next-label : label_of s ≡ label_at t
  next-label = ap label_of e ∙ tallied_label s₀ t

  drawn_on : (m n : ℕ) → m ≡ n → iterate next_of m s ≡ tallied s₀ (iterate one_draw n t)
  drawn_on m n q = ap₂ (λ (k : ℕ) (x : Philox4x32X8). iterate next_of k x) q e ∙ tallied_draws n s₀ t

  stands : (c : Call) → Step s c → rng_of c ≡ tallied s₀ (tally_after t c)
  unfolding drawn
  stands (draw r) h = ap (λ (x : Draw). x.rng) h ∙ ap next_of e ∙ tallied_draw s₀ t
  stands (group r) h = ap (λ (x : Blocks). x.rng) h ∙ ap (λ (x : Philox4x32X8). (grouped x).rng) e ∙ tallied_group s₀ t
  stands (seek n u64 r) h = h ∙ ap (λ (x : Philox4x32X8). sought x n) e ∙ tallied_seek s₀ t n u64
  stands (fill K before after r) h = h.0.state ∙ drawn_on r.draws _ h.0.count
  stands (bytes k before after r) h = h.0.state ∙ drawn_on r.value.draws _ (draws-made h.0)
  stands (many at m before after draws label rng) h = h.0.state ∙ drawn_on m m refl
  stands (skip n rng) h = h ∙ drawn_on n n refl

  right : (c : Call) → Step s c → Right s₀ t s c
  unfolding drawn grouped sought tallied iterate
  right (draw r) h = (ap (λ (x : Draw). x.words) h ∙ drawn-words 0, ap (λ (x : Draw). x.label) h ∙ next-label)
  right (group r) h =
      let q = h ∙ ap grouped e in
      record {
        word0 = ap (λ (x : Blocks). x.w0) q;
        word1 = ap (λ (x : Blocks). x.w1) q;
        word2 = ap (λ (x : Blocks). x.w2) q;
        word3 = ap (λ (x : Blocks). x.w3) q;
      }
  right (seek n u64 r) h = ap (λ (x : Philox4x32X8). x.counter) h
  right (fill K before after r) h = (right_fill _ drawn-words h.0, h.1 ∙ next-label)
  right (bytes k before after r) h =
      (right_bytes h.0 _ drawn-words, h.1 ∙ ap (λ (l : Label). unless r.refusal l no_label) next-label)
  right (many at m before after draws label rng) h = (right_draws _ drawn-words h.0, h.1 ∙ next-label)
  right (skip n rng) h = tt

  -- what the call reported is what is counted, where m were reported before it
  counts : {m : ℕ} (c : Call) → Step s c → m ≡ t.d → reported_after m c ≡ (tally_after t c).d
  unfolding one_draw
  counts (draw r) h q = omega (arith, q)
  counts (group r) h q = q
  counts (seek n u64 r) h q = refl
  counts (fill K before after r) h q = omega (arith, q, h.0.count, (draws-count (draws_for K (length before)) t).0)
  counts {m} (bytes k before after r) h q = counted _ _ (draws-reported h.0 ∙ draws-made h.0)
    where
      counted : (l n : ℕ) → l ≡ n → m + l ≡ (iterate one_draw n t).d
      counted l n e' = omega (arith, q, e', (draws-count n t).0)
  counts (many at m before after draws label rng) h q = omega (arith, q, h.0.count, (draws-count m t).0)
  counts (skip n rng) h q = omega (arith, q, (draws-count n t).0)

-- ---- a whole list
record Whole (s₀ : Philox4x32X8) (calls : List Call) : Type 0 where
  rng : rng_after s₀ calls ≡ tallied s₀ (tally calls)
  draws : reported calls ≡ (tally calls).d
  outputs : AllRight s₀ calls

whole : (s₀ : Philox4x32X8) → s₀ ≡ tallied s₀ start → {calls : List Call} → Run s₀ calls → Whole s₀ calls
whole s₀ e r = along r (Whole s₀) (record { rng = e; draws = refl; outputs = tt }) more
  where
    more : (c : Call) (calls : List Call) → Whole s₀ calls → Step (rng_after s₀ calls) c → Whole s₀ (c ∷ calls)
    more c calls w h =
        let t : Tally = tally calls in
        record {
          rng = stands s₀ t w.rng c h;
          draws = counts s₀ t w.rng c h w.draws;
          outputs = (right s₀ t w.rng c h, w.outputs);
        }

pub draws_add_up : DrawsAddUp
unfolding tallied
draws_add_up seed stream s₀ calls e r =
    let w = whole s₀ (e ∙ tallied_start seed stream ∙ ap (λ (s : Philox4x32X8). tallied s start) (sym e)) r in
    record {
      key = ap (λ (s : Philox4x32X8). s.key) w.rng;
      stream = ap (λ (s : Philox4x32X8). s.stream) w.rng;
      draws = w.draws;
      counter = ap (λ (s : Philox4x32X8). s.counter) w.rng;
      waits = ap (λ (s : Philox4x32X8). s.waiting) w.rng;
      pending = ap (λ (s : Philox4x32X8). s.pending) w.rng;
      first = ap (λ (s : Philox4x32X8). s.first) w.rng;
      label = next-label s₀ (tally calls) w.rng;
      left = ap left_of w.rng ∙ tallied_left s₀ (tally calls);
      outputs = w.outputs;
    }

-- ---- restored by saving and loading
-- a call on a sound generator hands back a sound one
stays_sound : {s : Philox4x32X8} → Sound s → (c : Call) → Step s c → Sound (rng_of c)
unfolding drawn
stays_sound {s} k (draw r) h = rw h (sound_next s k)
stays_sound {s} k (group r) h = rw h (sound_grouped s k)
stays_sound {s} k (seek n u64 r) h = rw h (sound_sought s n u64 k)
stays_sound {s} k (fill K before after r) h = rw h.0.state (iterate_keeps Sound next_of sound_next r.draws s k)
stays_sound {s} k (bytes n before after r) h = rw h.0.state (iterate_keeps Sound next_of sound_next r.value.draws s k)
stays_sound {s} k (many at m before after draws label rng) h = rw h.0.state (iterate_keeps Sound next_of sound_next m s k)
stays_sound {s} k (skip n rng) h = rw h (iterate_keeps Sound next_of sound_next n s k)

after_calls : {s₀ : Philox4x32X8} → Sound s₀ → (calls : List Call) → Run s₀ calls → Restored (rng_after s₀ calls)
after_calls {s₀} k calls r = restored _ (along r (λ calls. Sound (rng_after s₀ calls)) k (λ c calls k. stays_sound k c))

pub restores : Restores
restores =
    record {
      from_seed = λ seed stream a b. after_calls (sound_fresh seed stream a b);
      from_form = λ form b ok. after_calls (sound_loaded form b ok);
    }

-- ---- each contract is its step, word for word
pub philox_ships : PhiloxShips
philox_ships =
    record {
      new = λ κs a r e. (refl, refl);
      from_seed = λ κs a r e. (refl, refl);
      next_u64x8 = λ κs a r e. (refl, refl);
      draws_draw = λ κs a r e. (refl, refl);
      blocks = λ κs a r e. (refl, refl);
      seeks = λ κs a r e u64. (refl, refl);
      skips = λ κs a r e. (refl, refl);
      draws_left = λ κs a r e. (refl, refl);
      label = λ κs a r e. (refl, refl);
      fill_u64 = λ κs a r e. (refl, refl);
      fill_u32 = λ κs a r e. (refl, refl);
      fill_f32 = λ κs a r e. (refl, refl);
      fill_f64 = λ κs a r e. (refl, refl);
      fill_normal_f32 = λ κs a r e. (refl, refl);
      fill_normal_f64 = λ κs a r e. (refl, refl);
      fill_open01_f32 = λ κs a r e. (refl, refl);
      fill_open01_f64 = λ κs a r e. (refl, refl);
      fill_bytes = λ κs a r e. (refl, refl);
      draw_many = λ κs a r e. (refl, refl);
      fill_buffer = λ κs a r e. (refl, refl);
    }

-- ---- the rows of the table, of the fills in a list
eight : (s₀ : Philox4x32X8) (t : Tally) → Eights (λ m. words_at s₀ (iterate one_draw m t))
unfolding words_at upper_at lower_at
eight s₀ t m = one_of (waits_of (iterate one_draw m t)) _ _ (length-table 8 _) (length-table 8 _)
  where
    one_of : (waits : Bool) (upper lower : List ℕ) → length upper ≡ 8 → length lower ≡ 8 → length (cond waits upper lower) ≡ 8
    one_of true upper lower u l = u
    one_of false upper lower u l = l

pub rows_in_lists : RowsInLists
rows_in_lists s₀ t = rows (eight s₀ t)
