-- Two values that a format holds are one where they are the same fraction. Assumes nothing.
use Rattle.std.proofs.Common.{◌≡◌, ℕ, ◌+◌, ◌-◌, ◌*◌, ◌/◌, ◌^◌, ◌<◌, Bool, cond, T, sym, ap, ◌∙◌, mul_right_comm}
use native.Mathlib.Nat.{eq_of_mul-eq-mul_right}
use lib.Ieee.{Float, fin, Format, prec, low, up, down, size, top, hid, fits, of_bits, to_bits, inf, nan}
use lib.Ieee.Bits.{of_bits-to_bits}
use lib.Ieee.Exact.{HasValue}
use lib.Ieee.Fits.{down_pos}
use lib.Ieee.Nearest.{div_same}

-- the pattern of the value a / c, with the sign s
pattern : Format → Bool → ℕ → ℕ
pattern f s n = let k = size n - prec f in cond s (top f) 0 + k * hid f + n / 2 ^ k

bits_of : (f : Format) (x : Float) (s : Bool) (a c : ℕ) → 0 < c → HasValue x s a c → to_bits f x ≡ pattern f s (a * 2 ^ low f / c)
unfolding to_bits pattern
bits_of f (fin t m e) s a c p v =
    let n : m * up e * 2 ^ low f / down e ≡ a * 2 ^ low f / c =
    div_same (m * up e * 2 ^ low f) (down e) (a * 2 ^ low f) c (down_pos e) p
    (mul_right_comm (m * up e) (2 ^ low f) c ∙ ap (λ (z : ℕ). z * 2 ^ low f) v.1 ∙ mul_right_comm a (down e) (2 ^ low f)) in
    ap (λ (z : ℕ). pattern f t z) n ∙ ap (λ (z : Bool). pattern f z (a * 2 ^ low f / c)) v.0
bits_of f nan s a c p v = elim v [ ]
bits_of f (inf _) s a c p v = elim v [ ]

pub same-value : (f : Format) (x y : Float) (s : Bool) (a c : ℕ) → 0 < c → T (fits f x) → T (fits f y) → HasValue x s a c → HasValue y s a c → x ≡ y
same-value f x y s a c p fx fy vx vy =
    sym (of_bits-to_bits f x fx) ∙ ap (of_bits f) (bits_of f x s a c p vx ∙ sym (bits_of f y s a c p vy)) ∙ of_bits-to_bits f y fy

-- from one fraction to another of the same size
pub rescale : (x : Float) (s : Bool) (w l num den : ℕ) → 0 < l → num * l ≡ w * den → HasValue x s w l → HasValue x s num den
rescale (fin t m e) s w l num den p h v = (
  v.0,
  eq_of_mul-eq-mul_right l p (m * up e * den) (num * down e)
      (mul_right_comm (m * up e) den l
      ∙ ap (λ (x : ℕ). x * den) v.1
      ∙ mul_right_comm w (down e) den
      ∙ ap (λ (x : ℕ). x * down e) (sym h)
      ∙ mul_right_comm num l (down e)),
)
rescale nan s w l num den p h v = elim v [ ]
rescale (inf _) s w l num den p h v = elim v [ ]
