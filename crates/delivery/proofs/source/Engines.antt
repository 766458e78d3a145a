-- A source draws as its engine does. Assumes nothing.
use Rattle.std.proofs.Common.{◌≡◌, ℕ, zero, suc, Bool, cond, List, length, sym, refl, ap, ◌∙◌, eq-eqb, ne_eqb}
use mathlib.Core.Path.{fun_ext}
use Rattle.base.specs.Engine.{Engine, words_from}
use Rattle.base.specs.Refused.{unless}
use Rattle.base.specs.Iterate.{iterate}
use Rattle.fills.specs.FillBytes.{bytes_written, FilledBytes}
use Rattle.philox.specs.x8.Machine.{fresh, words_of as philoxWords, next_of as philoxNext, engine as philoxEngine}
use Rattle.philox.specs.declared.x8.Philox4x32X8.{Philox4x32X8}
use Rattle.xoshiro.specs.x8.Calls.{placed, words_of as xoshiroWords, next_of as xoshiroNext, engine as xoshiroEngine}
use Rattle.xoshiro.specs.declared.x8.Xoshiro256ppX8.{Xoshiro256ppX8}
use Rattle.delivery.specs.source.Source.{words_of, next_of, start_of, either}
use Rattle.delivery.specs.declared.source.Source.TheVariants.{Xoshiro, Philox}

-- ---- an engine held in another, whose words and draws are the same
module _ {G S : Type 0} (E : Engine G) (E' : Engine S) (hold : G → S) (on : (g : G) → E'.next (hold g) ≡ hold (E.next g)) where
  held_draws : (m : ℕ) (g : G) → iterate E'.next m (hold g) ≡ hold (iterate E.next m g)
  unfolding iterate
  held_draws zero g = refl
  held_draws (suc m) g = ap E'.next (held_draws m g) ∙ on (iterate E.next m g)

  held_bytes : ((g : G) → E'.words (hold g) ≡ E.words g) → {k : ℕ} {g g' : G} {before after : List ℕ} {refusal draws : ℕ}
      → FilledBytes E k g before after refusal draws g'
      → FilledBytes E' k (hold g) before after refusal draws (hold g')
  held_bytes same {k} {g} {g'} {before} {after} {refusal} {draws} F =
      let e : (m : ℕ) → words_from E g m ≡ words_from E' (hold g) m = λ m. sym (ap E'.words (held_draws m g) ∙ same (iterate E.next m g)) in
      record {
        refuses = F.refuses;
        writes = F.writes ∙ ap (λ (W : ℕ → List ℕ). unless refusal (bytes_written k W (length before)) before) (fun_ext e);
        count = F.count;
        state = ap hold F.state ∙ sym (held_draws draws g);
      }

-- ---- a source of either engine
words_1 : (g : Xoshiro256ppX8) → words_of (Xoshiro g) ≡ xoshiroWords g
unfolding words_of
words_1 g = refl

next_1 : (g : Xoshiro256ppX8) → next_of (Xoshiro g) ≡ Xoshiro (xoshiroNext g)
unfolding next_of
next_1 g = refl

words_2 : (g : Philox4x32X8) → words_of (Philox g) ≡ philoxWords g
unfolding words_of
words_2 g = refl

next_2 : (g : Philox4x32X8) → next_of (Philox g) ≡ Philox (philoxNext g)
unfolding next_of
next_2 g = refl

-- ---- what `start` and `fill_bytes` return, and what the draws hand out
module _ {engine : ℕ} (h : engine ≡ 1) where
  start_1 : (seed block : ℕ) → start_of engine seed block ≡ Xoshiro (placed seed block).rng
  unfolding start_of
  start_1 seed block = ap (λ (b : Bool). cond b (Xoshiro (placed seed block).rng) (Philox (fresh seed block))) (eq-eqb engine 1 h)

  pub started_1 : (seed block first : ℕ) {g : Xoshiro256ppX8} → g ≡ iterate xoshiroNext first (placed seed block).rng
      → Xoshiro g ≡ iterate next_of first (start_of engine seed block)
  started_1 seed block first e =
      ap (λ g. Xoshiro g) e
      ∙ sym (held_draws xoshiroEngine either (λ g. Xoshiro g) next_1 first (placed seed block).rng)
      ∙ ap (iterate next_of first) (sym (start_1 seed block))

  pub drawn_1 : (seed block m : ℕ) → words_of (iterate next_of m (start_of engine seed block)) ≡ xoshiroWords (iterate xoshiroNext m (placed seed block).rng)
  drawn_1 seed block m = ap words_of (sym (started_1 seed block m refl)) ∙ words_1 (iterate xoshiroNext m (placed seed block).rng)

module _ {engine : ℕ} (h : engine ≡ 1 → ⊥) where
  start_2 : (seed block : ℕ) → start_of engine seed block ≡ Philox (fresh seed block)
  unfolding start_of
  start_2 seed block = ap (λ (b : Bool). cond b (Xoshiro (placed seed block).rng) (Philox (fresh seed block))) (ne_eqb engine 1 h)

  pub started_2 : (seed block first : ℕ) {g : Philox4x32X8} → g ≡ iterate philoxNext first (fresh seed block)
      → Philox g ≡ iterate next_of first (start_of engine seed block)
  started_2 seed block first e =
      ap (λ g. Philox g) e
      ∙ sym (held_draws philoxEngine either (λ g. Philox g) next_2 first (fresh seed block))
      ∙ ap (iterate next_of first) (sym (start_2 seed block))

  pub drawn_2 : (seed block m : ℕ) → words_of (iterate next_of m (start_of engine seed block)) ≡ philoxWords (iterate philoxNext m (fresh seed block))
  drawn_2 seed block m = ap words_of (sym (started_2 seed block m refl)) ∙ words_2 (iterate philoxNext m (fresh seed block))

pub filled_1 : {k : ℕ} {g g' : Xoshiro256ppX8} {before after : List ℕ} {refusal draws : ℕ} → FilledBytes xoshiroEngine k g before after refusal draws g'
    → FilledBytes either k (Xoshiro g) before after refusal draws (Xoshiro g')
filled_1 F = held_bytes xoshiroEngine either (λ g. Xoshiro g) next_1 words_1 F

pub filled_2 : {k : ℕ} {g g' : Philox4x32X8} {before after : List ℕ} {refusal draws : ℕ} → FilledBytes philoxEngine k g before after refusal draws g'
    → FilledBytes either k (Philox g) before after refusal draws (Philox g')
filled_2 F = held_bytes philoxEngine either (λ g. Philox g) next_2 words_2 F
