-- The lists of a host's calls on the form of an eight-lane generator: the claim of specs/host/Xoshiro.antt. A form is followed by a generator that
-- it is the form of, and that generator's lanes by the laws of the lists of calls on a generator. Assumes nothing.
use mathlib.Core.List.{List, [], ◌∷◌}
use mathlib.Core.Path.{◌≡◌, refl, sym, ap, ◌∙◌}
use Prim.Native.Nat.{ℕ, ◌+◌, ◌*◌, ◌^◌}
use native.Mathlib.Nat.{add-zero}
use native.Mathlib.Omega.{arith}
use lib.IntN.{ℤ, pos}
use Rattle.base.specs.Iterate.{iterate}
use Rattle.base.specs.Quad.{column, rows_of}
use Rattle.base.specs.Refusal.{Answer}
use Rattle.base.specs.Refused.{unless}
use Rattle.base.specs.Table.{table}
use Rattle.base.proofs.Iterate.{iterate_keeps}
use Rattle.base.proofs.Lists.{along}
use Rattle.base.proofs.Quad.{rows_of-same}
use Rattle.girderpeach.specs.Host.{answer_of, first_of}
use Rattle.girderpeach.specs.Xoshiro.{forms}
use Rattle.xoshiro_steps.specs.Xoshiro256pp.{State, steps}
use Rattle.xoshiro.specs.scalar.Seeded.{seeded}
use Rattle.history.proofs.xoshiro256pp.Lanes.{At, at_same, at-draws, at-move, words-at}
use Rattle.saved.specs.xoshiro256pp.Form.{form_of, loaded}
use Rattle.saved.proofs.xoshiro256pp.Sound.{Sound, sound_placed, sound_next, sound_moved}
use Rattle.saved.proofs.xoshiro256pp.Theorems.{load_saved}
use Rattle.xoshiro.specs.x8.Calls.{next_of, block_jumps, placed, moved_blocks}
use Rattle.xoshiro.specs.x8.Lanes.{lane_of, of_rows, of_states}
use Rattle.xoshiro.specs.declared.x8.Xoshiro256ppX8.{Xoshiro256ppX8}
use Rattle.xoshiro.proofs.x8.Theorems.{lanes_start}
use Rattle.xoshiro.proofs.scalar.Theorems.{seed_distance}
use Rattle.history.specs.host.Answers.{if_accepted}
use Rattle.history.specs.host.Xoshiro.{Call, fill, move, skip, Step, form_in, form_after, Run, draws_reported, jumps_reported}
use Rattle.history.specs.host.Xoshiro.{draws_counted, jumps_counted, D, J, standing, Right, History, HostAddsUp}
use Rattle.history.proofs.host.Answers.{chosen, saved, counted, right, leaves, skip-answers, skip-counted, skip_leaves}

-- a form reads no more of a generator than its lanes
lanes-form : (g : Xoshiro256ppX8) → form_of g ≡ form_of (of_rows (rows_of (lane_of g)))
unfolding form_of rows_of column table
lanes-form g = refl

-- the form is that of a generator, which it restores, whose lanes stand where D is d and J is j
record Held (s : State) (d j : ℕ) (form : List ℕ) : Type 0 where
  g : Xoshiro256ppX8
  at : At s d j g
  sound : Sound g
  holds : form ≡ form_of g

module _ {s : State} {d j : ℕ} {form : List ℕ} (h : Held s d j form) where
  held_form : form ≡ form_of (standing s d j)
  held_form = h.holds ∙ lanes-form h.g ∙ ap (λ (r : List (List ℕ)). form_of (of_rows r)) (rows_of-same _ _ h.at.lane)

  read_back : loaded form ≡ record { refusal = 0; value = h.g }
  read_back = ap loaded h.holds ∙ load_saved h.g h.sound.words h.sound.nonzero

  ok : (loaded form).refusal ≡ 0
  ok = ap (λ (x : Answer Xoshiro256ppX8). x.refusal) read_back

  -- in a fill the kind and the length alone are refused
  fills : (r : ℕ) → forms.refusal_by form r ≡ r
  fills r = ap (λ (x : ℕ). first_of x r) ok

  read : (loaded form).value ≡ h.g
  read = ap (λ (x : Answer Xoshiro256ppX8). x.value) read_back

  held_same : {d' j' : ℕ} {form' : List ℕ} → d ≡ d' → j ≡ j' → form' ≡ form → Held s d' j' form'
  held_same ed ej e = record { g = h.g; at = at_same h.at ed ej refl; sound = h.sound; holds = e ∙ h.holds }

  held_draws : (m : ℕ) {form' : List ℕ} → form' ≡ form_of (iterate next_of m h.g) → Held s (d + m) j form'
  held_draws m e = record { g = iterate next_of m h.g; at = at-draws m h.at; sound = iterate_keeps Sound next_of sound_next m h.g h.sound; holds = e }

  held_move : (n : ℕ) {form' : List ℕ} → form' ≡ form_of (moved_blocks n h.g).rng → Held s d (j + block_jumps n) form'
  held_move n e = record { g = (moved_blocks n h.g).rng; at = at-move n h.at; sound = sound_moved n h.g h.sound; holds = e }

-- counted from the seed in steps alone
held_distance : (seed : ℕ) {d j : ℕ} {form : List ℕ} → Held (seeded seed) d j form → form ≡ form_of (of_states (λ i. steps ((j + i) * 2 ^ 128 + d) (seeded seed)))
held_distance seed {d} {j} h =
    held_form h ∙ ap (λ (r : List (List ℕ)). form_of (of_rows r)) (rows_of-same _ _ (λ i l. seed_distance seed (j + i) d))

-- one call: it reports what is counted, it is right, and the form that it leaves stands where it should
record One (s : State) (d j : ℕ) (form : List ℕ) (c : Call) : Type 0 where
  draws : draws_reported c ≡ draws_counted c
  jumps : jumps_reported c ≡ jumps_counted c
  right : Right s d j form c
  held : Held s (d + draws_counted c) (j + jumps_counted c) (form_in c)

one : {s : State} {d j : ℕ} {form : List ℕ} → Held s d j form → (c : Call) → Step form c → One s d j form c
unfolding moved_blocks
one {j = j} h (fill k before after answer form') F =
    record {
      draws = counted F.called;
      jumps = refl;
      right = right F (fills h) (read h) _ (λ m. words-at (at-draws m h.at));
      held = held_same (held_draws h _ (leaves F (fills h) (read h) h.holds)) refl (sym (add-zero j)) refl;
    }
one {d = d} {j} {form} h (move n before after answer form') F =
    let count : after ≡ block_jumps n = F.counts ∙ ap (λ (r : ℕ). unless r (block_jumps n) before) (ok h) in
    let answers : answer ≡ pos 0 = F.called.answers ∙ ap (λ (r : ℕ). answer_of r 0) (ok h) in
    let new = F.called.saves ∙ ap (λ (x : Answer Xoshiro256ppX8). unless x.refusal (form_of (moved_blocks n x.value).rng) form) (read_back h) in
    record {
      draws = refl;
      jumps = ap (λ (x : ℕ). if_accepted answer x 0) count;
      right = record { answers = answers; counts = count };
      held = held_same (held_move h n new) (sym (add-zero d)) (ap (λ (x : ℤ). j + if_accepted x (block_jumps n) 0) (sym answers)) refl;
    }
one {d = d} {j} h (skip n answer form') S =
    let made = sym (skip-counted forms n S (ok h)) in
    record {
      draws = refl;
      jumps = refl;
      right = skip-answers forms n S (ok h);
      held = held_same (held_draws h n (skip_leaves forms n S (ok h) (read h))) (ap (λ (m : ℕ). d + m) made) (sym (add-zero j)) refl;
    }

held_new : (seed b : ℕ) {s₀ : List ℕ} → s₀ ≡ form_of (placed seed b).rng → Held (seeded seed) 0 (J b []) s₀
unfolding iterate
held_new seed b e =
    held_same (record { g = (placed seed b).rng; at = record { lane = lanes_start seed b }; sound = sound_placed seed b; holds = e }) refl (sym (add-zero (block_jumps b))) refl

-- a whole list
abbrev Whole : ℕ → ℕ → ℕ → List ℕ → List Call → Type 0
Whole seed b j s₀ calls = Held (seeded seed) (D calls) (J b calls) (form_after s₀ calls) × History seed b j s₀ calls

whole : {seed b j : ℕ} {s₀ : List ℕ} {calls : List Call} → j ≡ block_jumps b → Held (seeded seed) 0 (J b []) s₀ → Run s₀ calls
    → Whole seed b j s₀ calls
whole {seed} {b} {j} {s₀} e h r = along r (Whole seed b j s₀) begun more
  where
    begun : Whole seed b j s₀ []
    begun = (h, record { draws = refl; jumps_total = ap (λ (k : ℕ). k + 0) e; form = held_form h; distance = held_distance seed h; outputs = tt })

    more : (c : Call) (calls : List Call) → Whole seed b j s₀ calls → Step (form_after s₀ calls) c → Whole seed b j s₀ (c ∷ calls)
    more c calls w f =
        let o = one w.0 c f in
        let h' : Held (seeded seed) (D (c ∷ calls)) (J b (c ∷ calls)) (form_in c) = held_same o.held refl (omega arith) refl in (
          h',
          record {
            draws = omega (arith, w.1.draws, o.draws);
            jumps_total = omega (arith, w.1.jumps_total, o.jumps);
            form = held_form h';
            distance = held_distance seed h';
            outputs = (o.right, w.1.outputs);
          },
        )

pub host_adds_up : HostAddsUp
unfolding placed
host_adds_up seed b before j₀ s₀ j calls n r =
    (whole (n.counts ∙ chosen n.called (block_jumps b) j₀) (held_new seed b (saved n.called)) r).1
