-- Each kind of the table is sound. Assumes nothing.
use mathlib.Core.Bool.{Bool}
use mathlib.Core.Path.{◌≡◌, refl, sym, ap, ap₂, ◌∙◌}
use mathlib.Core.List.{List, [], ◌∷◌, ◌++◌, map}
use Prim.Native.Nat.{ℕ, zero, suc, ◌-◌, ◌/◌, ◌%◌, ◌^◌, ◌<◌}
use native.Mathlib.Omega.{arith}
use lib.Dec.{lit<, lit≤}
use lib.ListN.{length, get_or, length-append, length-map}
use lib.Ieee.{Float, Format, binary32, binary64}
use Rattle.base.specs.Zip.{zip_with}
use Rattle.floats.specs.units.Unit.{unit, one_minus_unit, open01, unit_of}
use Rattle.math.specs.BoxMuller.{cos_half, sin_half}
use Rattle.fills.specs.Buffer.{either_f64s}
use Rattle.fills.specs.Fill.{Kind}
use Rattle.fills.specs.Kinds.{lows, highs, u64s, u32s, floats_of, f32s, f64s, normals_of}
use Rattle.fills.specs.Kinds.{normal_f32s, normal_f64s, open01_f32s, open01_f64s}
use Rattle.fills.specs.Kinds.{AnyKind, of, kinds, kind_at}
use Rattle.fills.proofs.Filling.{Sound}

pub length-zip : {A B C : Type 0} (f : A → B → C) (xs : List A) (ys : List B) → length xs ≡ length ys → length (zip_with f xs ys) ≡ length ys
length-zip f [] [] e = refl
length-zip f [] (y ∷ ys) e = absurd (omega arith)
length-zip f (x ∷ xs) [] e = absurd (omega arith)
length-zip f (x ∷ xs) (y ∷ ys) e = ap suc (length-zip f xs ys (omega arith))

-- two halves of eight
sixteen : {A : Type 0} (xs ys : List A) → length xs ≡ 8 → length ys ≡ 8 → length (xs ++ ys) ≡ 16
sixteen xs ys p q = length-append xs ys ∙ omega (arith, p, q)

pub halves_long : (w : List ℕ) → length w ≡ 8 → length (lows w ++ highs w) ≡ 16
halves_long w h = sixteen (lows w) (highs w) (length-map w (λ x. x % 2 ^ 32) ∙ h) (length-map w (λ x. x / 2 ^ 32) ∙ h)

normals_long : (f : Format) (a b : List ℕ) → length a ≡ 8 → length b ≡ 8 → length (normals_of f a b) ≡ 16
normals_long f a b p q =
    let u1 = map (one_minus_unit f) a in
    let u2 = map (unit f) b in
    let p' : length u1 ≡ 8 = length-map a (one_minus_unit f) ∙ p in
    let q' : length u2 ≡ 8 = length-map b (unit f) ∙ q in
    sixteen (zip_with (cos_half f) u1 u2) (zip_with (sin_half f) u1 u2) (length-zip (cos_half f) u1 u2 (p' ∙ sym q') ∙ q') (length-zip (sin_half f) u1 u2 (p' ∙ sym q') ∙ q')

pub u64s_sound : Sound u64s
u64s_sound = record { some = lit< tt; fits = lit≤ tt; full = λ W h. h 0; own = λ X Y e. e 0 (lit< tt) }

pub u32s_sound : Sound u32s
u32s_sound = record { some = lit< tt; fits = lit≤ tt; full = λ W h. halves_long (W 0) (h 0); own = λ X Y e. ap (λ (w : List ℕ). lows w ++ highs w) (e 0 (lit< tt)) }

-- a kind of floats is as sound as the kind that they are made of
floats_sound : {A : Type 0} (f : Format) (v : A → Float) (K : Kind A) → Sound K → Sound (floats_of f v K)
floats_sound f v K S = record {
  some = S.some;
  fits = S.fits;
  full = λ W h. length-map (K.group W) v ∙ S.full W h;
  own = λ X Y e. ap (map v) (S.own X Y e);
}

pub f32s_sound : Sound f32s
f32s_sound = floats_sound binary32 (unit binary32) u32s u32s_sound

pub f64s_sound : Sound f64s
f64s_sound = floats_sound binary64 (unit binary64) u64s u64s_sound

pub open01_f32s_sound : Sound open01_f32s
open01_f32s_sound = floats_sound binary32 (open01 binary32) u32s u32s_sound

pub either_f64s_sound : (nonzero : Bool) → Sound (either_f64s nonzero)
either_f64s_sound nonzero = floats_sound binary64 (unit_of binary64 nonzero) u64s u64s_sound

pub open01_f64s_sound : Sound open01_f64s
open01_f64s_sound = floats_sound binary64 (open01 binary64) u64s u64s_sound

pub normal_f32s_sound : Sound normal_f32s
normal_f32s_sound = record {
  some = lit< tt;
  fits = lit≤ tt;
  full = λ W h. normals_long binary32 (lows (W 0)) (highs (W 0)) (length-map (W 0) (λ x. x % 2 ^ 32) ∙ h 0) (length-map (W 0) (λ x. x / 2 ^ 32) ∙ h 0);
  own = λ X Y e. ap (λ (w : List ℕ). normals_of binary32 (lows w) (highs w)) (e 0 (lit< tt));
}

pub normal_f64s_sound : Sound normal_f64s
normal_f64s_sound = record {
  some = lit< tt;
  fits = lit≤ tt;
  full = λ W h. normals_long binary64 (W 0) (W 1) (h 0) (h 1);
  own = λ X Y e. ap₂ (normals_of binary64) (e 0 (lit< tt)) (e 1 (lit< tt));
}

-- so is each row, and an element has some bytes
pub record Row (K : AnyKind) : Type 0 where
  pub sound : Sound K.kind
  pub wide : 0 < K.kind.width

row_at : (i : ℕ) → Row (get_or kinds i (of u64s))
row_at zero = record { sound = u64s_sound; wide = lit< tt }
row_at (suc zero) = record { sound = u32s_sound; wide = lit< tt }
row_at (suc (suc zero)) = record { sound = f32s_sound; wide = lit< tt }
row_at (suc (suc (suc zero))) = record { sound = f64s_sound; wide = lit< tt }
row_at (suc (suc (suc (suc zero)))) = record { sound = normal_f32s_sound; wide = lit< tt }
row_at (suc (suc (suc (suc (suc zero))))) = record { sound = normal_f64s_sound; wide = lit< tt }
row_at (suc (suc (suc (suc (suc (suc zero)))))) = record { sound = open01_f32s_sound; wide = lit< tt }
row_at (suc (suc (suc (suc (suc (suc (suc zero))))))) = record { sound = open01_f64s_sound; wide = lit< tt }
row_at (suc (suc (suc (suc (suc (suc (suc (suc i)))))))) = record { sound = u64s_sound; wide = lit< tt }

pub row : (k : ℕ) → Row (kind_at k)
unfolding kind_at
row k = row_at (k - 1)
