-- The answers as signed words. Assumes nothing.
use mathlib.Core.Path.{◌≡◌, refl, sym, ap, ◌∙◌, subst}
use Prim.Native.Nat.{ℕ, zero, suc, ◌^◌, ◌<◌, ◌≤◌}
use native.Mathlib.Omega.{arith}
use lib.IntN.{ℤ, pos, negsuc, ◌-ℤ◌, +ℤ_idl}
use mir.Facts.{to_z_pos, to_z-of_z}
use mir.Syntax.{w64}
use mir.Val.{SFits, to_z, of_z}
use Rattle.girderpeach.specs.Host.{answer_of}

pub value-answer : (r v : ℕ) → r ≡ 0 → v < 2 ^ 63 → to_z w64 v ≡ answer_of r v
value-answer zero v e h = to_z_pos w64 h
value-answer (suc r) v e h = absurd (omega arith)

minus : (r : ℕ) → r ≤ 14 → pos 0 -ℤ to_z w64 r ≡ answer_of r 0
minus zero h = ap (λ (x : ℤ). pos 0 -ℤ x) (to_z_pos w64 {n = 0} (omega arith))
minus (suc r) h = ap (λ (x : ℤ). pos 0 -ℤ x) (to_z_pos w64 {n = suc r} (omega arith)) ∙ +ℤ_idl (negsuc r)

pub minus_fits : (r : ℕ) → r ≤ 14 → SFits w64 (pos 0 -ℤ to_z w64 r)
minus_fits zero h = subst (SFits w64) (sym (minus zero h)) (record { sfits = omega arith })
minus_fits (suc r) h = subst (SFits w64) (sym (minus (suc r) h)) (record { sfits = omega arith })

pub refusal-answer : (r v : ℕ) → r ≤ 14 → (r ≡ 0 → ⊥) → to_z w64 (of_z w64 (pos 0 -ℤ to_z w64 r)) ≡ answer_of r v
refusal-answer zero v h z = absurd (z refl)
refusal-answer (suc r) v h z = to_z-of_z (minus_fits (suc r) h) ∙ minus (suc r) h
