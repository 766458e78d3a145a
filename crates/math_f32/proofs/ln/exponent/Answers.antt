use Rattle.std.proofs.Common.{◌≡◌, ℕ, suc, ◌+◌, ◌-◌, ◌/◌, ◌^◌, ◌<◌, ◌≤◌, Bool, true, false, cond, T, ltb, ℤ, pos, negsuc, ◌-ℤ◌, sym, refl, ap, ◌∙◌, subst, arith, le→leb, lt→ltb, w32, SFits, to_z, of_z, lt-ltb}
use lib.Ieee.{binary32, of_int, in_float}
use lib.IntN.{sub_ℕ}
use lib.Signed.{mag}
use mir.Val.{sel, bool_byte}
use mir.ValLaws.{to_z-of_z}
use Rattle.math.specs.Ln.{exponent32}
use Rattle.math_f32.proofs.ln.exponent.Goals as goal

-- `math_f32::ln::exponent` meets its contract.
-- k - 127 for a k below 1024: the signed difference is in range, it is read back as it is, and the format holds it
plain : (k : ℕ) → k < 1024 → to_z w32 k -ℤ pos 127 ≡ sub_ℕ k 127
plain k h = ap (λ (t : Bool). sel t (pos k) (negsuc (2 ^ 32 - suc k)) -ℤ pos 127) (lt-ltb k (2 ^ 31) (omega arith))

small : (k : ℕ) → k < 1024 → mag (sub_ℕ k 127) < 1024
small k h = go (ltb k 127)
  where
    go : (t : Bool) → mag (cond t (negsuc (127 - suc k)) (pos (k - 127))) < 1024
    go true = omega arith
    go false = omega arith

in_range : (k : ℕ) → k < 1024 → SFits w32 (to_z w32 k -ℤ pos 127)
in_range k h = subst (SFits w32) (sym (plain k h)) (record { sfits = wider (mag (sub_ℕ k 127)) (small k h) })
  where
    wider : (n : ℕ) → n < 1024 → n < 2 ^ 31
    wider n l = omega arith

back : (k : ℕ) → k < 1024 → to_z w32 (of_z w32 (to_z w32 k -ℤ pos 127)) ≡ sub_ℕ k 127
back k h = to_z-of_z w32 (to_z w32 k -ℤ pos 127) (in_range k h) ∙ plain k h

held : (z : ℤ) → mag z < 1024 → T (in_float binary32 z)
unfolding in_float
held (pos n) h = le→leb n (2 ^ 24) (wider n h)
  where
    wider : (n : ℕ) → n < 1024 → n ≤ 2 ^ 24
    wider n l = omega arith
held (negsuc n) h = lt→ltb n (2 ^ 24) (wider n h)
  where
    wider : (n : ℕ) → n < 1024 → n < 2 ^ 24
    wider n l = omega arith

-- the field of a pattern, or 1 more
field : (b : ℕ) (t : Bool) → b < 2 ^ 32 → b / 2 ^ 23 + bool_byte t < 1024
field b true h = omega arith
field b false h = omega arith

byte : (t : Bool) → bool_byte t ≡ cond t 1 0
byte true = refl
byte false = refl

wider : (n : ℕ) → n < 1024 → (n < 2 ^ 31) × (n < 2 ^ 32)
wider n l = (omega arith, omega arith)

pub returns : goal.returns
unfolding exponent32
returns c =
    let b = c.args.bits in
    let t = c.args.halved in
    ap (of_int binary32) (back (b / 2 ^ 23 + bool_byte t) (field b t c.ranges.bits.fits) ∙ ap (λ (n : ℕ). sub_ℕ (b / 2 ^ 23 + n) 127) (byte t))
