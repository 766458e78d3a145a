-- What the tests `x != x` and `(b & mask) > infinity` tell, at both formats. Assumes nothing.
use mathlib.Core.Path.{◌≡◌, refl, sym, subst, ◌∙◌}
use mathlib.Core.Bool.{Bool, true, false, not}
use Prim.Native.Nat.{ℕ, ◌*◌, ◌%◌, ◌<◌, ◌≤◌}
use lib.Dec.{T}
use lib.Ieee.{Float, nan, inf, fin, Format, ne, is_nan, nan_bits, of_bits, ones, hid, top}
use lib.Ieee.Compare.{differs_from_itself}
use lib.Ieee.Bits.{nan_bits_is, nan_bits_above}
use borrow.Author.Tests.{lt-ltb, le-ltb}

pub is_nan_lem : (x : Float) → ne x x ≡ true → x ≡ nan
is_nan_lem x e = differs_from_itself x (subst T (sym e) tt)

pub no_nan : (x : Float) → ne x x ≡ false → T (not (is_nan x))
unfolding ne is_nan
no_nan nan e = subst T e tt
no_nan (inf s) e = tt
no_nan (fin s m e) h = tt

-- a pattern whose magnitude's part is above that of the infinity is a NaN's, and only such a one
pub nan_pattern : (f : Format) (b : ℕ) → ones f * hid f < b % top f → of_bits f b ≡ nan
unfolding is_nan
nan_pattern f b h = go (of_bits f b) (sym (nan_bits_is f b) ∙ nan_bits_above f b ∙ lt-ltb _ _ h)
  where
    go : (x : Float) → is_nan x ≡ true → x ≡ nan
    go nan e = refl
    go (inf s) e = absurd (subst T (sym e) tt)
    go (fin s m k) e = absurd (subst T (sym e) tt)

pub number_pattern : (f : Format) (b : ℕ) → b % top f ≤ ones f * hid f → T (not (nan_bits f b))
number_pattern f b h = subst (λ (t : Bool). T (not t)) (sym (nan_bits_above f b ∙ le-ltb _ _ h)) tt
