-- Two draws use eight blocks, so that a seek takes the place of an even number of them. Assumes nothing.
use Rattle.std.proofs.Common.{◌≡◌, ℕ, zero, suc, ◌+◌, ◌-◌, ◌*◌, ◌/◌, ◌%◌, ◌^◌, ◌<◌, true, false, sym, refl, ap, ◌∙◌, arith}
use Rattle.base.specs.Iterate.{iterate}
use Rattle.base.proofs.Iterate.{iterate_more, iterate-then}
use Rattle.philox.specs.x8.Machine.{upper_at, sought, holding, past, next_of, drawn, skipped}
use Rattle.philox.specs.declared.x8.Draw.{Draw}
use Rattle.philox.specs.declared.x8.Philox4x32X8.{Philox4x32X8}
use Rattle.philox.proofs.x8.Machine.{next_waiting, next-fresh}

two-draws : (g : Philox4x32X8) (n : ℕ) → next_of (next_of (sought g n)) ≡ sought g (past n)
unfolding next_of sought holding
two-draws g n = refl

pub even_draws : (g : Philox4x32X8) (c q : ℕ) → c < 2 ^ 64 → skipped (2 * q) (sought g c) ≡ sought g ((c + 8 * q) % 2 ^ 64)
unfolding iterate
even_draws g c zero h = ap (sought g) (omega arith)
even_draws g c (suc q) h =
    let e : 2 * suc q ≡ suc (suc (2 * q)) = omega arith in
    ap (λ (n : ℕ). skipped n (sought g c)) e
    ∙ ap (λ (x : Philox4x32X8). next_of (next_of x)) (even_draws g c q h)
    ∙ two-draws g ((c + 8 * q) % 2 ^ 64)
    ∙ ap (sought g) (omega arith)

-- ---- n draws from the counter c on, where none wait: an even number, or one more
module _ (g : Philox4x32X8) (c n : ℕ) {block : ℕ} {rng : Philox4x32X8}
    (eb : (block ≡ (c + 8 * (n / 2)) % 2 ^ 64) × (c < 2 ^ 64)) (er : rng ≡ sought g block) where
  sought-at : rng ≡ skipped (2 * (n / 2)) (sought g c)
  sought-at = er ∙ ap (sought g) eb.0 ∙ sym (even_draws g c (n / 2) eb.1)

  pub sought_even : n % 2 ≡ 0 → rng ≡ skipped n (sought g c)
  sought_even z = sought-at ∙ ap (λ (k : ℕ). skipped k (sought g c)) (omega arith)

  pub sought_odd : (n % 2 ≡ 0 → ⊥) → {draw : Draw} → draw ≡ drawn rng → draw.rng ≡ skipped n (sought g c)
  unfolding drawn
  sought_odd z ed =
      let e : 2 * (n / 2) + 1 ≡ n = omega arith in
      ap (λ (d : Draw). d.rng) ed ∙ ap next_of sought-at
      ∙ sym (iterate_more next_of (2 * (n / 2)) (sought g c))
      ∙ ap (λ (k : ℕ). skipped k (sought g c)) e

-- ---- the first of n draws, and the others
first-draw : (g : Philox4x32X8) (n : ℕ) → (n ≡ 0 → ⊥) → skipped n g ≡ skipped (n - 1) (next_of g)
unfolding iterate
first-draw g n h = let e : n ≡ 1 + (n - 1) = omega arith in ap (λ (k : ℕ). skipped k g) e ∙ iterate-then next_of 1 (n - 1) g

pub skipped_waiting : (g : Philox4x32X8) (n : ℕ) → g.waiting ≡ true → (n ≡ 0 → ⊥) → skipped (n - 1) (sought g g.counter) ≡ skipped n g
skipped_waiting g n e h = sym (first-draw g n h ∙ ap (skipped (n - 1)) (next_waiting g e))

-- what does not wait is no part of what follows
same_next : (g : Philox4x32X8) → g.waiting ≡ false → next_of (sought g g.counter) ≡ next_of g
unfolding next_of sought holding upper_at
same_next g e = sym (next-fresh g e)

pub skipped-fresh : (g : Philox4x32X8) (n : ℕ) → g.waiting ≡ false → (n ≡ 0 → ⊥) → skipped n (sought g g.counter) ≡ skipped n g
skipped-fresh g n e h = first-draw (sought g g.counter) n h ∙ ap (skipped (n - 1)) (same_next g e) ∙ sym (first-draw g n h)
