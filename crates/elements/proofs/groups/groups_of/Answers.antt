use Prim.Native.Nat.{ℕ, ◌%◌, ◌<◌, min}
use Rattle.fills.proofs.Rounding.{round_whole, round-part}
use Rattle.fills.specs.Fill.{round_up}
use Rattle.std.specs.Int.{div_ceil}
use mathlib.Core.Path.{◌≡◌, ap, ◌∙◌}
use native.Mathlib.Decide.{ℕ_discrete}
use native.Mathlib.Omega.{arith}
use Rattle.elements.proofs.groups.groups_of.Goals as goal

-- std's division that rounds up is that of the fills
rounded : (n w : ℕ) → 0 < w → div_ceil n w ≡ round_up n w
rounded n w pos =
    elim (ℕ_discrete (n % w) 0) [
      | yes e ↦ omega (arith, round_whole n w pos e)
      | no e ↦ omega (arith, round-part n w pos e)
    ]

pub returns : goal.returns
returns c = c.min.ensures ∙ ap (λ (q : ℕ). min q c.args.most) (c.div_ceil.ensures ∙ rounded _ _ (omega arith))
