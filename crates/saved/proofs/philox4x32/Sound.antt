-- Every generator that a constructor, a call or `load` hands back is restored by saving and loading. Assumes nothing.
use Rattle.std.proofs.Common.{◌≡◌, ℕ, ◌+◌, ◌^◌, ◌<◌, Bool, true, false, cond, eqb, List, get_or, sym, refl, ap, ◌∙◌, true≢false, mod-lt, pow_pos}
use Rattle.base.specs.Table.{table}
use Rattle.saved.specs.fields.Fields.{fields}
use Rattle.saved.proofs.fields.Fields.{Bytes}
use Rattle.philox.specs.x8.Claims.{Numbered}
use Rattle.philox.specs.x8.Machine.{none8, fresh, sought, holding, next_of, drawn, grouped}
use Rattle.philox.specs.declared.x8.Philox4x32X8.{Philox4x32X8}
use Rattle.philox.proofs.x8.Theorems.{keeps_number}
use Rattle.saved.specs.philox4x32.Claims.{Words, settled, Restored}
use Rattle.saved.specs.philox4x32.Form.{layout, mark_in, number_in, loaded}
use Rattle.saved.proofs.philox4x32.Form.{mark_saved, load-accepted, read_saved}
use Rattle.saved.proofs.philox4x32.Theorems.{load-numbered}
use Rattle.saved.proofs.philox4x32.Widths.{words-fresh, words-sought, words-next, words-loaded, next_cases}

-- its words fit, none are left that don't wait, and those that wait are their group's
pub record Sound (g : Philox4x32X8) : Type 0 where
  pub words : Words g
  pub rest : g.waiting ≡ false → (g.pending ≡ none8) × (g.first ≡ 0)
  pub numbered : Numbered g

settles : (g : Philox4x32X8) → (g.waiting ≡ false → (g.pending ≡ none8) × (g.first ≡ 0)) → settled g ≡ g
unfolding sought
settles g r = go g.waiting refl
  where
    go : (b : Bool) → g.waiting ≡ b → cond b g (sought g g.counter) ≡ g
    go true e = refl
    go false e =
        λ i. record {
          key = g.key;
          stream = g.stream;
          counter = g.counter;
          waiting = sym e i;
          pending = sym (r e).0 i;
          first = sym (r e).1 i;
        }

pub restored : (g : Philox4x32X8) → Sound g → Restored g
restored g s = read_saved g s.words s.numbered ∙ ap (λ (x : Philox4x32X8). record { refusal = 0; value = x }) (settles g s.rest)

-- ---- the constructors, the calls and `load`
pub sound_fresh : (seed stream : ℕ) → seed < 2 ^ 64 → stream < 2 ^ 64 → Sound (fresh seed stream)
unfolding fresh
sound_fresh seed stream a b =
    record { words = words-fresh seed stream a b; rest = λ w. (refl, refl); numbered = keeps_number.new seed stream }

pub sound_sought : (g : Philox4x32X8) (n : ℕ) → n < 2 ^ 64 → Sound g → Sound (sought g n)
unfolding sought
sound_sought g n h s =
    record { words = words-sought g n h s.words; rest = λ w. (refl, refl); numbered = keeps_number.seek g n s.numbered }

pub sound_next : (g : Philox4x32X8) → Sound g → Sound (next_of g)
unfolding drawn sought holding
sound_next g s =
    record {
      words = words-next g s.words;
      rest =
          next_cases (λ x. x.waiting ≡ false → (x.pending ≡ none8) × (x.first ≡ 0)) g (λ w. (refl, refl)) (λ w. absurd (true≢false w));
      numbered = keeps_number.draw g s.numbered;
    }

pub sound_grouped : (g : Philox4x32X8) → Sound g → Sound (grouped g).rng
unfolding grouped
sound_grouped g s =
    let w = s.words in
    record {
      words =
          record {
            two = w.two;
            key = w.key;
            stream = w.stream;
            counter = mod-lt _ (pow_pos 64);
            eight = w.eight;
            pending = w.pending;
            first = w.first;
          };
      rest = s.rest;
      numbered = keeps_number.blocks g s.numbered;
    }

pub sound_loaded : (s : List ℕ) → Bytes s → (loaded s).refusal ≡ 0 → Sound (loaded s).value
sound_loaded s b ok = record { words = words-loaded s b ok; rest = rest; numbered = load-numbered s }
  where
    f : List ℕ
    f = fields layout s

    rest : (loaded s).value.waiting ≡ false → ((loaded s).value.pending ≡ none8) × ((loaded s).value.first ≡ 0)
    rest w =
        let a = load-accepted s ok in
        let e : eqb (mark_in f) 1 ≡ false = sym (ap (λ (g : Philox4x32X8). g.waiting) a.holds) ∙ w in
        let k = mark_saved (mark_in f) (λ i. get_or f (5 + i) 0) (number_in f) a.form in (
          ap (λ (g : Philox4x32X8). g.pending) a.holds ∙ sym k.words
              ∙ ap (λ (b : Bool). cond b (table 8 (λ i. get_or f (5 + i) 0)) none8) e,
          ap (λ (g : Philox4x32X8). g.first) a.holds ∙ sym k.number ∙ ap (λ (b : Bool). cond b (number_in f) 0) e,
        )
