use Rattle.std.proofs.Common.{◌≡◌, ap, ◌∙◌}
use lib.Ieee.{Float, binary64}
use Rattle.math.specs.Turns.{angle}
use Rattle.math_f64.specs.sincos_turns.Lanes.{sin_start, sin_end, cos_start, cos_end, turned_of}
use Rattle.math.specs.Lanes.{lane_of}
use Rattle.math_f64.proofs.sincos_turns.Whole.{whole}
use Rattle.math_f64.proofs.sincos_turns.lane.Goals as goal

-- `math_f64::sincos_turns::lane` meets its contract.
parts : (t th : Float) {y s z c : Float} → th ≡ angle binary64 t → y ≡ sin_start th → s ≡ sin_end th y → z ≡ cos_start th → c ≡ cos_end th z → turned_of t s c ≡ lane_of binary64 t
parts t th p a b d e =
    (λ i. turned_of t ((b ∙ ap (sin_end th) a) i) ((e ∙ ap (cos_end th) d) i)) ∙ ap (λ (h : Float). turned_of t (sin_end h (sin_start h)) (cos_end h (cos_start h))) p ∙ whole t

pub returns : goal.returns
returns c =
    c.turned.ensures
    ∙ parts _ _ c.angle-th.ensures c.sin_start.ensures c.sin_end.ensures c.cos_start.ensures c.cos_end.ensures
