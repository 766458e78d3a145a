use Rattle.std.proofs.Common.{ℕ, ◌+◌, ◌/◌, ◌%◌, eqb, refl, ap, ◌∙◌, rules}
use lib.Ieee.{binary64, of_bits, round}
use Rattle.math.proofs.Signs.{turned}
use Rattle.math.specs.Turns.{shifted, quarter, turned_sin, turned_cos}
use Rattle.math_f64.specs.sincos_turns.Lanes.{turned_of}
use Rattle.math_f64.proofs.sincos_turns.turned.Goals as goal

pub returns : goal.returns
unfolding turned_of quarter shifted of_bits round
returns c =
    let q = c.to_bits_f64-q.result % 4 in
    let s = c.args.s in
    let k = c.args.c in
    λ i. record {
      cos = (turned binary64 (eqb ((q + 1) / 2 % 2) 1) (eqb (q % 2) 1) s k (search rules) (search rules) refl refl c.select-co.ensures c.sign-2.ensures ∙ ap (λ (b : ℕ). turned_cos (b % 4) s k) c.to_bits_f64-q.ensures) i;
      sin = (turned binary64 (eqb (q / 2 % 2) 1) (eqb (q % 2) 1) k s (search rules) (search rules) refl refl c.select-so.ensures c.sign.ensures ∙ ap (λ (b : ℕ). turned_sin (b % 4) s k) c.to_bits_f64-q.ensures) i;
    }
