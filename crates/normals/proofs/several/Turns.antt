-- The turns of a loop that stores the groups of eight draws in each, n = 8 / d for d draws a group. Assumes nothing.
use Prim.Native.Nat.{ℕ, zero, suc, ◌+◌, ◌-◌, ◌*◌, ◌/◌, ◌<◌, ◌≤◌, min}
use mathlib.Core.Path.{◌≡◌, ap, ◌∙◌}
use native.Mathlib.Nat.{add-mul, suc-mul}
use native.Mathlib.Numerals.{add-one}
use native.Mathlib.Omega.{arith}
use Rattle.fills.specs.Fill.{round_up}
use Rattle.fills.proofs.Rounding.{round_within}

-- of the q groups that come next, those of turn i are in the buffer's first 16 draws, and eight draws make one or more
pub turn-inside : (d i q : ℕ) → 0 < d → d ≤ 2 → q ≤ 16 / d → i < q / (8 / d) → (i * (8 / d) ≤ 8 / d) × (i * (8 / d) + 8 / d ≤ q) × (0 < 8 / d)
turn-inside zero i q h k l m = absurd (omega arith)
turn-inside (suc zero) i q h k l m = (omega arith, omega arith, omega arith)
turn-inside (suc (suc zero)) i q h k l m = (omega arith, omega arith, omega arith)
turn-inside (suc (suc (suc d))) i q h k l m = absurd (omega arith)

-- and each begins inside the places
pub turn-place : (n at W d i q : ℕ) → 0 < W → 0 < d → d ≤ 2 → q ≡ min (round_up (n - at) W) (16 / d) → i < q / (8 / d)
    → at + i * (8 / d) * W + (8 / d - 1) * W < n
turn-place n at W d i q pos some few e h =
    let T = turn-inside d i q some few (omega arith) h in
    let last : (i * (8 / d) + (8 / d - 1)) * W < n - at = round_within (n - at) W (i * (8 / d) + (8 / d - 1)) pos (omega (arith, T.1, T.2)) in
    omega (arith, last, add-mul (i * (8 / d)) (8 / d - 1) W)

pub turn-next : (i n : ℕ) → (i + 1) * n ≡ i * n + n
turn-next i n = ap (λ (m : ℕ). m * n) (add-one i) ∙ suc-mul i n
