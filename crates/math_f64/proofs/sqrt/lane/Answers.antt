use Rattle.std.proofs.Common.{◌≡◌, false, refl, ap, ◌∙◌}
use lib.Ieee.{Float, binary64, nan, inf, fin, add, sub, mul, is_nan, of_bits, round}
use Rattle.math.specs.Sqrt.{sqrt, guess_of, newton_step, corrected}
use Rattle.math_f64.proofs.sqrt.lane.Goals as goal

-- `math_f64::sqrt::lane` meets its contract.
-- the root of a NaN is a NaN, whatever the guess
root : (v y : Float) → (is_nan v ≡ false → y ≡ guess_of binary64 v) → (let step = newton_step binary64 v in corrected binary64 v (step (step (step y)))) ≡ sqrt binary64 v
unfolding sqrt corrected add sub mul is_nan
root nan y g = refl
root (inf s) y g = ap (λ (y : Float). let step = newton_step binary64 (inf s) in corrected binary64 (inf s) (step (step (step y)))) (g refl)
root (fin s m e) y g = ap (λ (y : Float). let step = newton_step binary64 (fin s m e) in corrected binary64 (fin s m e) (step (step (step y)))) (g refl)

pub returns : goal.returns
unfolding corrected of_bits round
returns c =
    let v = c.args.v in
    let step = newton_step binary64 v in
    ap (corrected binary64 v) (c.newton-y-3.ensures ∙ ap step (c.newton-y-2.ensures ∙ ap step c.newton-y.ensures))
    ∙ root v c.guess-y.result c.guess-y.ensures
