-- The draws of a slice of bytes, and the draws left, fit a signed word. Assumes nothing.
use mathlib.Core.Path.{◌≡◌}
use Prim.Native.Nat.{ℕ, zero, suc, ◌-◌, ◌/◌, ◌^◌, ◌<◌}
use native.Mathlib.Omega.{arith}
use lib.ListN.{get_or}
use Rattle.fills.specs.Fill.{draws_for}
use Rattle.fills.specs.FillBytes.{bytes_draws}
use Rattle.fills.specs.Kinds.{AnyKind, u64s, of, kinds, kind_at}
use Rattle.philox.specs.x8.Machine.{left_of}
use Rattle.philox.specs.declared.x8.Philox4x32X8.{Philox4x32X8}
use Rattle.philox.proofs.x8.Theorems.{left-at-most}

abbrev Few : AnyKind → Type 0
Few K = (n : ℕ) → n < 2 ^ 64 → draws_for K.kind (n / K.kind.width) < 2 ^ 63

few_at : (i : ℕ) → Few (get_or kinds i (of u64s))
few_at zero n h = omega arith
few_at (suc zero) n h = omega arith
few_at (suc (suc zero)) n h = omega arith
few_at (suc (suc (suc zero))) n h = omega arith
few_at (suc (suc (suc (suc zero)))) n h = omega arith
few_at (suc (suc (suc (suc (suc zero))))) n h = omega arith
few_at (suc (suc (suc (suc (suc (suc zero)))))) n h = omega arith
few_at (suc (suc (suc (suc (suc (suc (suc zero))))))) n h = omega arith
few_at (suc (suc (suc (suc (suc (suc (suc (suc i)))))))) n h = omega arith

pub few_draws : (k n : ℕ) → n < 2 ^ 64 → bytes_draws k n < 2 ^ 63
unfolding bytes_draws kind_at
few_draws k n h = few_at (k - 1) n h

pub few_left : (g : Philox4x32X8) {n : ℕ} → n ≡ left_of g → n < 2 ^ 63
few_left g e = omega (arith, left-at-most g)
