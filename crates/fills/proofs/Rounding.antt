-- How many groups n places begin: n / w rounded up. Assumes nothing.
use mathlib.Core.Path.{◌≡◌, ap, ◌∙◌}
use Prim.Native.Nat.{ℕ, zero, suc, ◌+◌, ◌-◌, ◌*◌, ◌/◌, ◌%◌, ◌<◌, ◌≤◌}
use native.Mathlib.Nat.{div-zero, div-eq_of_lt, div-add-mod', div-eq_of_lt-le, lt-div-mul-add, mod-lt, mul-le-mul_right, suc-mul, mul-suc}
use native.Mathlib.Decide.{dec_lt, ℕ_discrete}
use native.Mathlib.Numerals.{add-one}
use native.Mathlib.Omega.{arith}
use Rattle.fills.specs.Fill.{round_up}

-- none over
pub round_whole : (n w : ℕ) → 0 < w → n % w ≡ 0 → round_up n w ≡ n / w
round_whole n w pos e =
    div-eq_of_lt-le w (omega (arith, div-add-mod' n w)) (rw (add-one, suc-mul) (omega (arith, div-add-mod' n w)))

-- some over
pub round-part : (n w : ℕ) → 0 < w → (n % w ≡ 0 → ⊥) → round_up n w ≡ n / w + 1
round-part n w pos e =
    div-eq_of_lt-le w (rw (add-one, suc-mul) (omega (arith, div-add-mod' n w))) (rw (add-one, suc-mul, add-one, suc-mul) (omega (arith, div-add-mod' n w, mod-lt n pos)))

-- no fewer than whole groups
pub round-least : (n w q : ℕ) → 0 < w → q ≤ n / w → q ≤ round_up n w
round-least n w q pos h =
    elim (ℕ_discrete (n % w) 0) [
      | yes e ↦ omega (arith, round_whole n w pos e)
      | no e ↦ omega (arith, round-part n w pos e)
    ]

-- no places, or groups of no places
pub round-none : (n w : ℕ) → n ≡ 0 → round_up n w ≡ 0
round-none n zero e = div-zero (n + (0 - 1))
round-none n (suc w) e = div-eq_of_lt (omega arith)

pub round_nothing : (n w : ℕ) → w ≡ 0 → round_up n w ≡ 0
round_nothing n w e = ap (λ (x : ℕ). (n + (x - 1)) / x) e ∙ div-zero (n + (0 - 1))

-- these groups have a place for each
pub round_covers : (n w : ℕ) → 0 < w → n ≤ round_up n w * w
round_covers n w pos = omega (arith, lt-div-mul-add {a = n + (w - 1)} pos)

-- each of them begins at a place, so that they are no more than the places
pub round_within : (n w k : ℕ) → 0 < w → k < round_up n w → k * w < n
round_within n w k pos h = omega (arith, mul-le-mul_right w h, suc-mul k w, div-add-mod' (n + (w - 1)) w)

pub round-most : (n w : ℕ) → round_up n w ≤ n
round-most n zero = omega (arith, div-zero (n + (0 - 1)))
round-most n (suc w) =
    elim (dec_lt n (round_up n (suc w))) [
      | yes h ↦ absurd (omega (arith, round_within n (suc w) n (omega arith) h, mul-suc n w))
      | no h ↦ omega arith
    ]
