-- What the walk over a polynomial's bits keeps, word by word. Assumes nothing.
use Rattle.std.proofs.Common.{◌≡◌, ℕ, zero, suc, ◌+◌, ◌*◌, ◌≤◌, List, [], ◌∷◌, length, get_or, sym, ap, ◌∙◌, ap₂, add-zero, add-suc, arith}
use Rattle.base.specs.Iterate.{iterate}
use Rattle.base.specs.Quad.{quad_of, list_of}
use Rattle.base.proofs.Iterate.{iterate_more, iterate-then}
use Rattle.base.proofs.Quad.{list_four}
use Rattle.xoshiro_steps.specs.Xoshiro256pp.{State, step, steps, plus, none, times, summed, jumped, jump_poly, bit_of, highest_of}
use Rattle.xoshiro.specs.scalar.Calls.{state_of, generator, jumped_by, jumps_made}
use Rattle.xoshiro.specs.declared.scalar.Xoshiro256pp.{Xoshiro256pp}
use Rattle.xoshiro.specs.declared.scalar.Jump.{Jump}
use Rattle.xoshiro_steps.proofs.Linear.{plus_none, none-plus, plus_assoc}
use Rattle.xoshiro_steps.proofs.Bits.{bit_of_word, summed-set, summed_clear, summed_early}

-- ---- the bits of one word
summed-word : (p : List ℕ) (i b : ℕ) (s : State) → b ≤ 64 → summed p (64 * i + b) s ≡ plus (summed p (64 * i) s) (summed (get_or p i 0 ∷ []) b (steps (64 * i) s))
unfolding summed
summed-word p i zero s h = ap (λ (n : ℕ). summed p n s) (add-zero (64 * i)) ∙ sym (plus_none (summed p (64 * i) s))
summed-word p i (suc b) s h =
    ap (λ (n : ℕ). summed p n s) (add-suc (64 * i) b)
    ∙ (λ j. plus (summed-word p i b s (omega arith) j) (times (bit_of_word p i b (omega arith) j) (walked j)))
    ∙ plus_assoc _ _ _
  where
    walked : steps (64 * i + b) s ≡ steps b (steps (64 * i) s)
    walked = iterate-then step (64 * i) b s

-- ---- after k bits of a walk: the states at the set bits are added to base, and k steps are made from start
pub record Walk (p : List ℕ) (base start : State) (acc at : List ℕ) (k : ℕ) : Type 0 where
  pub sums : acc ≡ list_of (plus base (summed p k start))
  pub walks : at ≡ list_of (steps k start)

pub walk_none : {p acc at : List ℕ} → length acc ≡ 4 → length at ≡ 4 → Walk p (quad_of acc) (quad_of at) acc at 0
unfolding summed iterate
walk_none {p} {acc} {at} la lt = record { sums = sym (list_four 0 acc la) ∙ ap list_of (sym (plus_none (quad_of acc))); walks = sym (list_four 0 at lt) }

module _ {p : List ℕ} {base start : State} {acc at : List ℕ} {k : ℕ} (w : Walk p base start acc at k) where
  -- the sum with bit k
  pub sum_set : {b : ℕ} → b ≡ bit_of p k → (b ≡ 0 → ⊥) → {acc' : List ℕ} → acc' ≡ list_of (plus (quad_of acc) (quad_of at))
      → acc' ≡ list_of (plus base (summed p (k + 1) start))
  sum_set eb h es =
      es ∙ ap₂ (λ (x y : List ℕ). list_of (plus (quad_of x) (quad_of y))) w.sums w.walks
      ∙ ap list_of (plus_assoc base (summed p k start) (steps k start) ∙ ap (plus base) (sym (summed-set p k start (λ z. h (eb ∙ z)))))

  pub sum_clear : {b : ℕ} → b ≡ bit_of p k → b ≡ 0 → {acc' : List ℕ} → acc' ≡ acc → acc' ≡ list_of (plus base (summed p (k + 1) start))
  sum_clear eb z es = es ∙ w.sums ∙ ap (λ (x : State). list_of (plus base x)) (sym (summed_clear p k start (sym eb ∙ z)))

  -- and the step after it
  pub walk_more : {acc' at' : List ℕ} → acc' ≡ list_of (plus base (summed p (k + 1) start)) → at' ≡ list_of (step (quad_of at))
      → Walk p base start acc' at' (k + 1)
  walk_more es ea =
      let stepped = ap (λ (x : List ℕ). list_of (step (quad_of x))) w.walks ∙ sym (ap list_of (iterate_more step k start)) in
      record { sums = es; walks = ea ∙ stepped }

-- the first b bits of one word more
pub walk_word : {p : List ℕ} {base start : State} {acc at acc' at' : List ℕ} (i b : ℕ) → b ≤ 64 → Walk p base start acc at (64 * i)
    → Walk (get_or p i 0 ∷ []) (quad_of acc) (quad_of at) acc' at' b → Walk p base start acc' at' (64 * i + b)
walk_word {p} {base} {start} i b h v w =
    record {
      sums =
          w.sums ∙ ap₂ (λ (x y : List ℕ). list_of (plus (quad_of x) (summed (get_or p i 0 ∷ []) b (quad_of y)))) v.sums v.walks
          ∙ ap list_of (plus_assoc base (summed p (64 * i) start) _ ∙ ap (plus base) (sym (summed-word p i b start h)));
      walks =
          w.walks ∙ ap (λ (x : List ℕ). list_of (steps b (quad_of x))) v.walks
          ∙ ap list_of (sym (iterate-then step (64 * i) b start));
    }

-- a walk to the highest set bit, and the sum with it
pub walk_end : (g : Xoshiro256pp) {p acc at acc' : List ℕ} {top : ℕ} → top ≡ highest_of p → Walk p none (state_of g) acc at top
    → acc' ≡ list_of (plus none (summed p (top + 1) (state_of g)))
    → ◌≡◌ {A = Jump} (record { rng = record { s = acc' }; steps = top; walked = record { s = at } }) (jumped_by p g)
unfolding jumped_by
walk_end g {p} e w es =
    let sum = none-plus _ ∙ ap (λ (n : ℕ). summed p (n + 1) (state_of g)) e ∙ summed_early p (state_of g) in
    λ i. record {
      rng = record { s = (es ∙ ap list_of sum) i };
      steps = e i;
      walked = record { s = (w.walks ∙ ap (λ (n : ℕ). list_of (steps n (state_of g))) e) i };
    }

-- ---- jumps made one after another
pub jumps-none : (g : Xoshiro256pp) → length g.s ≡ 4 → g ≡ jumps_made 0 g
unfolding iterate
jumps-none g l = λ i. record { s = sym (list_four 0 g.s l) i }

pub jumps_more : (k : ℕ) (g₀ : Xoshiro256pp) {g : Xoshiro256pp} {j : Jump} → g ≡ jumps_made k g₀ → j ≡ jumped_by jump_poly g
    → j.rng ≡ jumps_made (k + 1) g₀
unfolding jumped_by
jumps_more k g₀ e h =
    ap (λ (x : Jump). x.rng) h ∙ ap (λ (x : Xoshiro256pp). generator (jumped jump_poly (state_of x))) e
    ∙ sym (ap generator (iterate_more (jumped jump_poly) k (state_of g₀)))
