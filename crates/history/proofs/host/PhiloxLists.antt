-- The lists of a host's calls on the form of a Philox generator: the claim of specs/host/Philox.antt. A form is that of the generator that the tally
-- stands for, which every call reads back. Assumes nothing.
use mathlib.Core.List.{List, ◌∷◌}
use mathlib.Core.Bool.{cond}
use mathlib.Core.Path.{◌≡◌, refl, sym, ap, ap₂, ◌∙◌}
use Prim.Native.Nat.{ℕ, zero, suc, ◌%◌}
use native.Mathlib.Omega.{arith}
use lib.IntN.{ℤ, pos}
use lib.ListN.{length}
use Rattle.base.specs.Refusal.{Answer}
use Rattle.base.specs.Refused.{unless}
use Rattle.base.specs.Iterate.{iterate}
use Rattle.base.proofs.Iterate.{iterate_keeps}
use Rattle.base.proofs.Lists.{along}
use Rattle.fills.specs.FillBytes.{bytes_draws}
use Rattle.girderpeach.specs.Host.{answer_of, first_of}
use Rattle.girderpeach.specs.Philox.{forms, Labelled, draws_left}
use Rattle.history.specs.philox4x32.History.{Tally, left_at, start, one_draw, label_at}
use Rattle.history.proofs.philox4x32.Tallied.{tallied, tallied_start, tallied_words, tallied_label}
use Rattle.history.proofs.philox4x32.Tallied.{tallied_draws, tallied_seek, tallied_half, tallied_left}
use Rattle.history.proofs.philox4x32.Theorems.{draws-count}
use Rattle.saved.specs.philox4x32.Form.{form_of, loaded}
use Rattle.saved.proofs.philox4x32.Form.{told}
use Rattle.saved.proofs.philox4x32.Sound.{Sound, restored, sound_fresh, sound_sought, sound_next}
use Rattle.philox.specs.x8.Machine.{words_of, next_of, sought, label_of, left_of}
use Rattle.philox.specs.declared.x8.Label.{Label}
use Rattle.philox.specs.declared.x8.Philox4x32X8.{Philox4x32X8}
use Rattle.history.specs.host.Answers.{if_accepted}
use Rattle.history.specs.host.Philox.{Call, fill, seek, skip, Step, form_in, form_after, Run}
use Rattle.history.specs.host.Philox.{tally_after, tally, reported_after, Right, History, HostAddsUp}
use Rattle.history.proofs.host.Answers.{saved, counted, right, leaves, skip-answers, skip-counted, skip_leaves}

last_none : (r : ℕ) → first_of 0 (first_of r 0) ≡ r
last_none zero = refl
last_none (suc r) = refl

-- the form is that of the generator that the tally t stands for
record Held (g₀ : Philox4x32X8) (t : Tally) (form : List ℕ) : Type 0 where
  kept : Sound (tallied g₀ t)
  holds : form ≡ form_of (tallied g₀ t)

held : {g₀ : Philox4x32X8} {t : Tally} {g : Philox4x32X8} {form : List ℕ} → g ≡ tallied g₀ t → Sound g → form ≡ form_of g → Held g₀ t form
held e k q = record { kept = rw e at k; holds = q ∙ ap form_of e }

read_back : {g₀ : Philox4x32X8} {t : Tally} {form : List ℕ} → Held g₀ t form → loaded form ≡ record { refusal = 0; value = tallied g₀ t }
read_back {g₀} {t} h = ap loaded h.holds ∙ restored (tallied g₀ t) h.kept

-- one call: the form that it leaves, that it is right, and that it reports what is counted
module _ (g₀ : Philox4x32X8) (t : Tally) {form : List ℕ} (h : Held g₀ t form) where
  ok : (loaded form).refusal ≡ 0
  ok = ap (λ (x : Answer Philox4x32X8). x.refusal) (read_back h)

  -- in a fill the kind and the length alone are refused
  fills : (r : ℕ) → forms.refusal_by form r ≡ r
  fills r = ap₂ (λ (p l : ℕ). first_of p (first_of r l)) (told form ok (λ z. omega arith)) ok ∙ last_none r

  read : (loaded form).value ≡ tallied g₀ t
  read = ap (λ (x : Answer Philox4x32X8). x.value) (read_back h)

  stands : (c : Call) → Step form c → Held g₀ (tally_after t c) (form_in c)
  stands (fill k before after answer form') F =
      let n : ℕ = if_accepted answer (bytes_draws k (length before)) 0 in
      held (tallied_draws n g₀ t) (iterate_keeps Sound next_of sound_next n _ h.kept) (leaves F fills read h.holds)
  stands (seek n u64 answer form') C =
      held (tallied_seek g₀ t n u64) (sound_sought _ n u64 h.kept)
      (C.saves ∙ ap (λ (x : Answer Philox4x32X8). unless x.refusal (form_of (sought x.value n)) form) (read_back h))
  stands (skip n answer form') S =
      let m : ℕ = if_accepted answer n 0 in
      let made = sym (skip-counted forms n S ok) in
      let left = skip_leaves forms n S ok read ∙ ap (λ (k : ℕ). form_of (iterate next_of k (tallied g₀ t))) made in
      held (tallied_draws m g₀ t) (iterate_keeps Sound next_of sound_next m _ h.kept) left

  is_right : (c : Call) → Step form c → Right g₀ t form c
  is_right (fill k before after answer form') F =
      right F fills read _ (λ m. ap words_of (tallied_draws m g₀ t) ∙ tallied_words g₀ (iterate one_draw m t))
  is_right (seek n u64 answer form') C = C.answers ∙ ap (λ (x : Answer Philox4x32X8). answer_of x.refusal 0) (read_back h)
  is_right (skip n answer form') S = skip-answers forms n S ok

  counts : {m : ℕ} (c : Call) → Step form c → m ≡ t.d → reported_after m c ≡ (tally_after t c).d
  counts (fill k before after answer form') F e =
      omega (arith, e, counted F.called, (draws-count (if_accepted answer (bytes_draws k (length before)) 0) t).0)
  counts (seek n u64 answer form') C e = refl
  counts (skip n answer form') S e = omega (arith, e, (draws-count (if_accepted answer n 0) t).0)

  tells_left : draws_left form ≡ pos (left_at t)
  tells_left = ap (λ (x : Answer Philox4x32X8). answer_of x.refusal (left_of x.value)) (read_back h) ∙ ap pos (tallied_left g₀ t)

  tells_label : (first : ℕ) (answer : ℤ) (first' : ℕ) → Labelled form first answer first' → (answer ≡ pos (t.d % 2))
      × (first' ≡ (label_at t).first)
  tells_label first answer first' c =
      let label = ap label_of read ∙ tallied_label g₀ t in
      let half = ap (λ (l : Label). cond l.upper 1 0) label ∙ tallied_half t in (
        c.answers ∙ ap₂ (λ (r v : ℕ). answer_of r v) ok half,
        c.writes ∙ ap₂ (λ (r : ℕ) (l : Label). unless r l.first first) ok label,
      )

-- a whole list
abbrev Whole : Philox4x32X8 → List ℕ → List Call → Type 0
Whole g₀ s₀ calls = Held g₀ (tally calls) (form_after s₀ calls) × History g₀ s₀ calls

whole : {g₀ : Philox4x32X8} {s₀ : List ℕ} {calls : List Call} → Held g₀ start s₀ → Run s₀ calls → Whole g₀ s₀ calls
unfolding tallied
whole {g₀} {s₀} h r = along r (Whole g₀ s₀)
    (h, record { draws = refl; form = h.holds; left = tells_left g₀ start h; label = tells_label g₀ start h; outputs = tt }) more
  where
    more : (c : Call) (calls : List Call) → Whole g₀ s₀ calls → Step (form_after s₀ calls) c → Whole g₀ s₀ (c ∷ calls)
    more c calls w f =
        let t : Tally = tally calls in
        let h' = stands g₀ t w.0 c f in
        let right' = is_right g₀ t w.0 c f in
        let left' = tells_left g₀ (tally (c ∷ calls)) h' in (
          h',
          record {
            draws = counts g₀ t w.0 c f w.1.draws;
            form = h'.holds;
            left = left';
            label = tells_label g₀
                (tally (c ∷ calls)) h';
            outputs = (right', w.1.outputs);
          },
        )

pub host_adds_up : HostAddsUp
host_adds_up seed stream a b before s₀ calls n r =
    (whole (held (tallied_start seed stream)
    (sound_fresh seed stream a b)
    (saved n)) r).1
