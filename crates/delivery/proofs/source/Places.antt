-- Where the words of a draw stand, engine by engine; and that no two stand at one place. Assumes nothing.
use Rattle.std.proofs.Common.{◌≡◌, ℕ, suc, ◌+◌, ◌-◌, ◌*◌, ◌/◌, ◌%◌, ◌^◌, ◌<◌, ◌≤◌, Bool, cond, eqb, List, get_or, sym, ap, ◌∙◌, arith, eq-eqb, ne_eqb}
use native.Mathlib.Decide.{ℕ_discrete}
use Rattle.base.specs.Iterate.{iterate}
use Rattle.base.specs.Quad.{Quad}
use Rattle.base.specs.Table.{table}
use Rattle.base.proofs.Table.{get_or-table}
use Rattle.order.specs.Order.{last_block, last_draw}
use Rattle.philox.specs.block.Philox.{block}
use Rattle.philox.specs.x8.Machine.{block_at, fresh, sought, holding}
use Rattle.philox.specs.x8.Machine.{lower_at, upper_at, words_of as philoxWords, next_of as philoxNext}
use Rattle.philox.specs.declared.x8.Philox4x32X8.{Philox4x32X8}
use Rattle.philox.proofs.x8.Skipping.{even_draws}
use Rattle.xoshiro_steps.specs.Xoshiro256pp.{output, steps}
use Rattle.xoshiro.specs.x8.Calls.{placed, words_of as xoshiroWords, next_of as xoshiroNext}
use Rattle.xoshiro.proofs.x8.Draws.{word-at}
use Rattle.xoshiro.proofs.x8.Theorems.{lanes-skip, lanes_start}
use Rattle.delivery.specs.source.Source.{words_of, next_of, start_of}
use Rattle.delivery.specs.source.Places.{stepped, encrypted, lower, upper, word_at, place_of}
use Rattle.delivery.proofs.source.Engines.{drawn_1, drawn_2}

-- ---- the place by the test of the engine
module _ (engine b i j : ℕ) where
  place_1 : engine ≡ 1 → place_of engine b i j ≡ stepped (8 * b % 2 ^ 64 + j) i
  unfolding place_of
  place_1 e =
      ap (λ (t : Bool). cond t (stepped (8 * b % 2 ^ 64 + j) i) (encrypted b ((8 * (i / 2) + j) % 2 ^ 64) (i % 2))) (eq-eqb engine 1 e)

  place_2 : (engine ≡ 1 → ⊥) → place_of engine b i j ≡ encrypted b ((8 * (i / 2) + j) % 2 ^ 64) (i % 2)
  unfolding place_of
  place_2 e =
      ap (λ (t : Bool). cond t (stepped (8 * b % 2 ^ 64 + j) i) (encrypted b ((8 * (i / 2) + j) % 2 ^ 64) (i % 2))) (ne_eqb engine 1 e)

-- ---- a word of Philox
module _ (g : Philox4x32X8) (n j : ℕ) (h : j < 8) where
  lower_word : get_or (philoxWords (sought g n)) j 0 ≡ lower (block_at g (n + j))
  unfolding philoxWords sought lower_at
  lower_word = get_or-table 8 (λ i. lower (block_at g (n + i))) j 0 h

  upper-word : get_or (philoxWords (philoxNext (sought g n))) j 0 ≡ upper (block_at g (n + j))
  unfolding philoxWords philoxNext sought holding upper_at
  upper-word =
      get_or-table 8 (λ i. get_or (table 8 (λ m. upper (block_at g (n + m)))) i 0) j 0 h ∙ get_or-table 8 (λ i. upper (block_at g (n + i))) j 0 h

module _ (seed stream i j : ℕ) (h : j < 8) where
  abbrev f : Philox4x32X8
  f = fresh seed stream

  abbrev at : ℕ → Quad
  at n = block (seed % 2 ^ 32) (seed / 2 ^ 32) stream n

  abbrev n : ℕ
  n = 8 * (i / 2) % 2 ^ 64

  even_at : iterate philoxNext (2 * (i / 2)) f ≡ sought f n
  unfolding sought fresh
  even_at = even_draws (fresh seed stream) 0 (i / 2) (omega arith) ∙ ap (sought f) (omega arith)

  same_block : block_at f (n + j) ≡ at ((8 * (i / 2) + j) % 2 ^ 64)
  unfolding fresh
  same_block = let e : (n + j) % 2 ^ 64 ≡ (8 * (i / 2) + j) % 2 ^ 64 = omega arith in ap at e

  even_word : i % 2 ≡ 0 → get_or (philoxWords (iterate philoxNext i f)) j 0 ≡ lower (at ((8 * (i / 2) + j) % 2 ^ 64))
  even_word e =
      let q : i ≡ 2 * (i / 2) = omega arith in
      ap (λ (m : ℕ). get_or (philoxWords (iterate philoxNext m f)) j 0) q
      ∙ ap (λ (g : Philox4x32X8). get_or (philoxWords g) j 0) even_at
      ∙ lower_word f n j h
      ∙ ap lower same_block

  odd_word : (i % 2 ≡ 0 → ⊥) → get_or (philoxWords (iterate philoxNext i f)) j 0 ≡ upper (at ((8 * (i / 2) + j) % 2 ^ 64))
  unfolding iterate
  odd_word e =
      let q : i ≡ suc (2 * (i / 2)) = omega arith in
      ap (λ (m : ℕ). get_or (philoxWords (iterate philoxNext m f)) j 0) q
      ∙ ap (λ (g : Philox4x32X8). get_or (philoxWords (philoxNext g)) j 0) even_at
      ∙ upper-word f n j h
      ∙ ap upper same_block

  pub encrypted-word : get_or (philoxWords (iterate philoxNext i f)) j 0
      ≡ word_at seed (encrypted stream ((8 * (i / 2) + j) % 2 ^ 64) (i % 2))
  unfolding word_at
  encrypted-word = go (ℕ_discrete (i % 2) 0)
    where
      q : Quad
      q = at ((8 * (i / 2) + j) % 2 ^ 64)

      go : Dec (i % 2 ≡ 0) → get_or (philoxWords (iterate philoxNext i f)) j 0 ≡ cond (eqb (i % 2) 0) (lower q) (upper q)
      go (yes e) = even_word e ∙ sym (ap (λ (t : Bool). cond t (lower q) (upper q)) (eq-eqb (i % 2) 0 e))
      go (no e) = odd_word e ∙ sym (ap (λ (t : Bool). cond t (lower q) (upper q)) (ne_eqb (i % 2) 0 e))

-- ---- a word of xoshiro256++
pub stepped-word : (seed b i j : ℕ) → j < 8
    → get_or (xoshiroWords (iterate xoshiroNext i (placed seed b).rng)) j 0 ≡ word_at seed (stepped (8 * b % 2 ^ 64 + j) i)
unfolding word_at
stepped-word seed b i j h =
    word-at (iterate xoshiroNext i (placed seed b).rng) j h
    ∙ ap output (lanes-skip i (placed seed b).rng j h ∙ ap (steps i) (lanes_start seed b j h))

pub at_place : (engine seed b i j : ℕ) → j < 8
    → get_or (words_of (iterate next_of i (start_of engine seed b))) j 0 ≡ word_at seed (place_of engine b i j)
at_place engine seed b i j h = go (ℕ_discrete engine 1)
  where
    go : Dec (engine ≡ 1) → get_or (words_of (iterate next_of i (start_of engine seed b))) j 0 ≡ word_at seed (place_of engine b i j)
    go (yes e) =
        ap (λ (l : List ℕ). get_or l j 0) (drawn_1 e seed b i) ∙ stepped-word seed b i j h ∙ ap (word_at seed) (sym (place_1 engine b i j e))
    go (no e) =
        ap (λ (l : List ℕ). get_or l j 0) (drawn_2 e seed b i)
        ∙ encrypted-word seed b i j h
        ∙ ap (word_at seed) (sym (place_2 engine b i j e))

-- ---- one place each
same-stepped : (b c i k j l : ℕ) → b ≤ 2 ^ 61 - 1 → c ≤ 2 ^ 61 - 1 → j < 8 → l < 8
    → stepped (8 * b % 2 ^ 64 + j) i ≡ stepped (8 * c % 2 ^ 64 + l) k → (b ≡ c) × (i ≡ k) × (j ≡ l)
same-stepped b c i k j l hb hc hj hl e =
    let a : 8 * b % 2 ^ 64 + j ≡ 8 * c % 2 ^ 64 + l = cc in
    let s : i ≡ k = cc in
    (omega arith, s, omega arith)

same-encrypted : (b c i k j l : ℕ) → i ≤ 2 ^ 62 - 1 → k ≤ 2 ^ 62 - 1 → j < 8 → l < 8
    → encrypted b ((8 * (i / 2) + j) % 2 ^ 64) (i % 2) ≡ encrypted c ((8 * (k / 2) + l) % 2 ^ 64) (k % 2) → (b ≡ c) × (i ≡ k) × (j ≡ l)
same-encrypted b c i k j l hi hk hj hl e =
    let s : b ≡ c = cc in
    let a : (8 * (i / 2) + j) % 2 ^ 64 ≡ (8 * (k / 2) + l) % 2 ^ 64 = cc in
    let p : i % 2 ≡ k % 2 = cc in
    (s, omega arith, omega arith)

module _ (engine : ℕ) where
  last_1 : engine ≡ 1 → last_block engine ≡ 2 ^ 61 - 1
  unfolding last_block
  last_1 e = ap (λ (t : Bool). cond t (2 ^ 61 - 1) (2 ^ 64 - 1)) (eq-eqb engine 1 e)

  last_2 : (engine ≡ 1 → ⊥) → last_draw engine ≡ 2 ^ 62 - 1
  unfolding last_draw
  last_2 e = ap (λ (t : Bool). cond t (2 ^ 64 - 1) (2 ^ 62 - 1)) (ne_eqb engine 1 e)

  pub one_each : (b c i k j l : ℕ) → b ≤ last_block engine → c ≤ last_block engine → i ≤ last_draw engine → k ≤ last_draw engine → j < 8
      → l < 8
      → place_of engine b i j ≡ place_of engine c k l → (b ≡ c) × (i ≡ k) × (j ≡ l)
  one_each b c i k j l hb hc hi hk hj hl p = go (ℕ_discrete engine 1)
    where
      go : Dec (engine ≡ 1) → (b ≡ c) × (i ≡ k) × (j ≡ l)
      go (yes e) =
          let m = last_1 e in
          same-stepped b c i k j l (omega arith) (omega arith) hj hl (sym (place_1 engine b i j e) ∙ p ∙ place_1 engine c k l e)
      go (no e) =
          let m = last_2 e in
          same-encrypted b c i k j l (omega arith) (omega arith) hj hl (sym (place_2 engine b i j e) ∙ p ∙ place_2 engine c k l e)
