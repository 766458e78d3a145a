use Rattle.std.proofs.Common.{ℕ, ◌+◌, ◌/◌, ◌%◌, eqb, ap, ◌∙◌}
use lib.Ieee.{binary32, of_bits, round}
use Rattle.math.proofs.Signs.{sin_fits, cos_fits, turned}
use Rattle.math.specs.Turns.{shifted, quarter, angle, sin_poly, cos_poly, turned_sin, turned_cos, sin_turns, cos_turns}
use Rattle.math.specs.Lanes.{lane_of}
use Rattle.math_f32.proofs.sincos_turns.lane.Goals as goal

pub returns : goal.returns
unfolding lane_of sin_turns cos_turns quarter shifted angle of_bits round
returns c =
    let q = c.to_bits_f32-q.result % 4 in
    let t = c.args.t in
    let p = sin_poly binary32 (angle binary32 t) in
    let r = cos_poly binary32 (angle binary32 t) in
    let h = sin_fits binary32 (angle binary32 t) in
    let k = cos_fits binary32 (angle binary32 t) in
    λ i. record {
      cos = (turned binary32 (eqb ((q + 1) / 2 % 2) 1) (eqb (q % 2) 1) p r h k c.sin_poly-s.ensures c.cos_poly-c.ensures c.select-co.ensures c.sign-2.ensures ∙ ap (λ (b : ℕ). turned_cos (b % 4) p r) c.to_bits_f32-q.ensures) i;
      sin = (turned binary32 (eqb (q / 2 % 2) 1) (eqb (q % 2) 1) r p k h c.cos_poly-c.ensures c.sin_poly-s.ensures c.select-so.ensures c.sign.ensures ∙ ap (λ (b : ℕ). turned_sin (b % 4) p r) c.to_bits_f32-q.ensures) i;
    }
