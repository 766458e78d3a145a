use Rattle.std.proofs.Common.{◌≡◌, ℕ, ◌+◌, ◌*◌, ◌/◌, ◌%◌, ◌^◌, ◌<◌, ap, ◌∙◌, arith, rules}
use lib.Bits.{bit_or, bit_and, and_mask, or_shifted_r}
use lib.Ieee.{Float, binary64, add, sub, of_bits, to_bits, round}
use Rattle.floats.specs.patterns.Numbers.{lit}
use Rattle.math.specs.Ln.{exponent64}
use Rattle.math_f64.specs.ln.Parts.{halved, raised, ratio, parts_of}
use Rattle.math_f64.specs.declared.ln.Parts.{Parts}
use Rattle.math_f64.proofs.ln.split.Goals as goal

-- `math_f64::ln::split` meets its contract.
-- the digits of b behind a 1, and its field as digits of 2 ^ 52
digits : (b : ℕ) → bit_or (bit_and b 0x000F_FFFF_FFFF_FFFF) 0x3FF0_0000_0000_0000 ≡ 1023 * 2 ^ 52 + b % 2 ^ 52
digits b = ap (λ (n : ℕ). bit_or n 0x3FF0_0000_0000_0000) (and_mask b 52) ∙ or_shifted_r 1023 52 (b % 2 ^ 52) (omega arith)

field : (b : ℕ) → b < 2 ^ 64 → bit_or (b / 2 ^ 52) 0x4330_0000_0000_0000 ≡ 1075 * 2 ^ 52 + b / 2 ^ 52
field b h = or_shifted_r 1075 52 (b / 2 ^ 52) (omega arith)

bias : Float
bias = add binary64 (lit binary64 4503599627370496 0) (lit binary64 1023 0)

parts : (b : ℕ) → b < 2 ^ 64 → (v d x m e : Float) → b ≡ to_bits binary64 v → d ≡ of_bits binary64 (bit_or (bit_and b 0x000F_FFFF_FFFF_FFFF) 0x3FF0_0000_0000_0000)
    → x ≡ of_bits binary64 (bit_or (b / 2 ^ 52) 0x4330_0000_0000_0000) → m ≡ halved d → e ≡ raised d (sub binary64 x bias) → ◌≡◌ {A = Parts} (record { s = ratio m; e = e }) (parts_of v)
unfolding parts_of exponent64 bias
parts b h v d x m e a p o q r =
    let d' : d ≡ of_bits binary64 (1023 * 2 ^ 52 + to_bits binary64 v % 2 ^ 52) = p ∙ ap (of_bits binary64) (digits b) ∙ ap (λ (n : ℕ). of_bits binary64 (1023 * 2 ^ 52 + n % 2 ^ 52)) a in
    let e' : sub binary64 x bias ≡ exponent64 (to_bits binary64 v) = ap (λ (y : Float). sub binary64 y bias) (o ∙ ap (of_bits binary64) (field b h)) ∙ ap exponent64 a in
    λ i. record { s = ratio ((q ∙ ap halved d') i); e = (r ∙ λ k. raised (d' k) (e' k)) i }

pub returns : goal.returns
unfolding ratio bias of_bits round
returns c =
    parts _ (search rules) _ _ _ _ _ c.to_bits_f64-bits.ensures c.from_bits_f64-digits.ensures c.from_bits_f64.ensures c.select-f.ensures c.select-e.ensures
