use Rattle.std.proofs.Common.{◌≡◌, ℕ, ◌+◌, ◌*◌, ◌%◌, ◌^◌, cond, ap, ◌∙◌, arith}
use lib.Bits.{bit_or, bit_and, and_mask, or_shifted_r}
use lib.Ieee.{Float, binary32, lt, mul, of_bits, round}
use Rattle.floats.specs.patterns.Numbers.{lit}
use Rattle.math.specs.Ln.{root2, exponent32, reduced32, ln_bits32, ln}
use Rattle.math_f32.proofs.ln.lane.Goals as goal

-- `math_f32::ln::lane` meets its contract.
-- the digits of b behind a 1
digits : (b : ℕ) → bit_or (bit_and b 0x007F_FFFF) 0x3F80_0000 ≡ 127 * 2 ^ 23 + b % 2 ^ 23
digits b = ap (λ (n : ℕ). bit_or n 0x3F80_0000) (and_mask b 23) ∙ or_shifted_r 127 23 (b % 2 ^ 23) (omega arith)

halved : Float → Float
halved m = cond (lt (root2 binary32) m) (mul binary32 m (lit binary32 5 1)) m

lane : (b : ℕ) (m s e : Float) → m ≡ of_bits binary32 (bit_or (bit_and b 0x007F_FFFF) 0x3F80_0000) → s ≡ halved m → e ≡ exponent32 b (lt (root2 binary32) m) → reduced32 s e ≡ ln_bits32 b
unfolding ln_bits32 halved
lane b m s e p q r =
    ap (λ (y : Float). reduced32 y e) q ∙ ap (reduced32 (halved m)) r
    ∙ ap (λ (y : Float). reduced32 (halved y) (exponent32 b (lt (root2 binary32) y))) (p ∙ ap (of_bits binary32) (digits b))

pub returns : goal.returns
unfolding ln halved of_bits round
returns c =
    c.reduced.ensures
    ∙ lane _ _ _ _ c.from_bits_f32-m.ensures c.select.ensures c.exponent-ef.ensures
    ∙ ap ln_bits32 c.to_bits_f32-bits.ensures
