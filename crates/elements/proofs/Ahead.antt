-- Several groups of a fill at a time, by way of a buffer of draws: such a turn keeps what a fill of group after group keeps (`Turning`). For
-- any kind and engine. Assumes nothing.
use mathlib.Core.List.{List}
use mathlib.Core.Path.{◌≡◌, sym, ap, ◌∙◌}
use Prim.Native.Nat.{ℕ, zero, suc, ◌+◌, ◌-◌, ◌*◌, ◌/◌, ◌<◌, ◌≤◌, min}
use native.Mathlib.Nat.{suc-mul, add-mul, mul-add, mul_comm, div-eq_of_lt-le, div-mul-le_self, lt-div-mul-add, mul-le-mul_left, mul-le-mul_right}
use native.Mathlib.Decide.{dec_lt}
use native.Mathlib.Numerals.{add-one}
use native.Mathlib.Omega.{arith}
use lib.ListN.{length}
use Rattle.base.specs.Engine.{Engine, DrawnAt}
use Rattle.fills.specs.Buffer.{groups_ahead, stored_groups}
use Rattle.fills.specs.Fill.{Kind, round_up}
use Rattle.fills.proofs.Buffered.{more_buffered}
use Rattle.fills.proofs.Draws.{Turning}
use Rattle.fills.proofs.Filling.{same_place}
use Rattle.fills.proofs.Rounding.{round_within}

-- the groups after the first j of those that n places begin
pub round-after : (n W j : ℕ) → 0 < W → j < round_up n W → round_up (n - j * W) W ≡ round_up n W - j
round-after n W j pos h =
    let R : ℕ = round_up n W in
    let t : ℕ = R - j in
    let e : R * W ≡ j * W + t * W = ap (λ (k : ℕ). k * W) (omega arith) ∙ add-mul j t W in
    let low : R * W ≤ n + (W - 1) = div-mul-le_self (n + (W - 1)) W in
    let high : n + (W - 1) < R * W + W = lt-div-mul-add pos in
    let inside : j * W < n = round_within n W j pos h in
    div-eq_of_lt-le W (omega arith) (rw (add-one, suc-mul) (omega arith))

-- the draws of no more groups than 16 draws make
pub few-draws : (d q : ℕ) → q ≤ 16 / d → d * q ≤ 16
few-draws d q h = omega (arith, mul-le-mul_right d h, div-mul-le_self 16 d, mul_comm d q)

-- and 16 draws make some
pub some-ahead : (d : ℕ) → 0 < d → d ≤ 2 → 0 < 16 / d
some-ahead zero h k = absurd (omega arith)
some-ahead (suc zero) h k = omega arith
some-ahead (suc (suc zero)) h k = omega arith
some-ahead (suc (suc (suc d))) h k = absurd (omega arith)

module _ {G A : Type 0} {E : Engine G} {K : Kind A} {g : G} {old : List A} where
  -- a turn of q groups
  pub turns-ahead : {m : ℕ} {out out' : List A} {j q n dr : ℕ} {rng rng' : G} {a b : List ℕ} → Turning E K g old m out j rng → j < m
      → 0 < q → q ≡ min (m - j) (16 / K.draws) → length a ≡ 128 → DrawnAt E rng 0 n a b dr rng' → n ≡ min 16 (K.draws * q)
      → out' ≡ stored_groups K b out (j * K.places) (groups_ahead K (length out - j * K.places))
      → Turning E K g old m out' (j + q) rng'
  turns-ahead {m} {out} {out'} {j} {q} {n} {dr} {rng} {rng'} {a} {b} T h some eq la D en eo =
      let F = T.fills in
      let W : ℕ = K.places in
      let d : ℕ = K.draws in
      let pos : 0 < W = F.sound.some in
      let l : j < round_up (length old) W = omega (arith, T.all) in
      let few : d * q ≤ 16 = few-draws d q (omega arith) in
      let all : n ≡ d * q = omega arith in
      let after : round_up (length out - j * W) W ≡ m - j =
      ap (λ (k : ℕ). round_up (k - j * W) W) F.same ∙ round-after (length old) W j pos l ∙ ap (λ (k : ℕ). k - j) (sym T.all) in
      let same : groups_ahead K (length out - j * W) ≡ q = ap (λ (k : ℕ). min k (16 / d)) after ∙ sym eq in
      let last : (j + (q - 1)) * W < length old = round_within (length old) W (j + (q - 1)) pos (omega (arith, T.all)) in
      let one_more : (j + q) * W ≡ (j + (q - 1)) * W + W = ap (λ (k : ℕ). k * W) (omega arith) ∙ suc-mul (j + (q - 1)) W in
      let place : j * W + q * W ≡ (j + q) * W = sym (add-mul j q W) in
      record {
        upto = omega arith;
        all = T.all;
        fills = same_place (more_buffered q F D (omega arith) all (omega arith) (eo ∙ ap (stored_groups K b out (j * W)) same)) place (ap (λ (k : ℕ). d * j + k) (D.count ∙ all) ∙ sym (mul-add d j q));
      }

-- groups of 8 places or more
pub few-groups : (n W : ℕ) → 8 ≤ W → round_up n W * 8 ≤ n + 8
few-groups n W h = elim (dec_lt 0 (round_up n W)) [
  | yes p ↦ omega (arith, round_within n W (round_up n W - 1) (omega arith) (omega arith), mul-le-mul_left (round_up n W - 1) h)
  | no p ↦ omega arith
]
