-- The table of kinds (the scope document, "Unit floats and fills"). A new kind is a new row.
use Rattle.std.specs.Prelude.{Bool, ◌&&◌, List, [], ◌∷◌, ◌++◌, map, ℕ, ◌-◌, ◌/◌, ◌%◌, ◌^◌, leb, length, get_or, Float}
use Rattle.std.specs.Float.{Format, binary32, binary64}
use Rattle.std.specs.Float.Ieee.{to_bits}
use Rattle.base.specs.Zip.{zip_with}
use Rattle.floats.specs.patterns.Numbers as numbers
use Rattle.floats.specs.units.Unit.{unit, one_minus_unit, open01}
use Rattle.math.specs.BoxMuller.{cos_half, sin_half}
use Rattle.fills.specs.Fill.{Kind}

-- the low halves of words, and the high halves
abbrev pub lows : List ℕ → List ℕ
lows = map (λ w. w % 2 ^ 32)

abbrev pub highs : List ℕ → List ℕ
highs = map (λ w. w / 2 ^ 32)

-- 1, u64: the words of a draw
abbrev pub u64s : Kind ℕ
u64s = record { places = 8; draws = 1; group = λ w. w 0; width = 8; bits = λ x. x; blank = 0 }

-- 2, u32: their low halves, then their high halves
abbrev pub u32s : Kind ℕ
u32s = record { places = 16; draws = 1; group = λ w. lows (w 0) ++ highs (w 0); width = 4; bits = λ x. x; blank = 0 }

-- floats of the format f, each of them v of an element of K, which is as wide
abbrev pub floats_of : {A : Type 0} → Format → (A → Float) → Kind A → Kind Float
floats_of f v K = record {
  places = K.places;
  draws = K.draws;
  group = λ w. map v (K.group w);
  width = K.width;
  bits = to_bits f;
  blank = numbers.zero;
}

-- 3, f32: the unit of each element of kind 2
abbrev pub f32s : Kind Float
f32s = floats_of binary32 (unit binary32) u32s

-- 4, f64: the unit of each element of kind 1
abbrev pub f64s : Kind Float
f64s = floats_of binary64 (unit binary64) u64s

-- the cosine halves of Box-Muller, then the sine halves; u1 is 1 - unit of a, u2 is unit of b
abbrev pub normals_of : Format → List ℕ → List ℕ → List Float
normals_of f a b =
    let u1 = map (one_minus_unit f) a in
    let u2 = map (unit f) b in
    zip_with (cos_half f) u1 u2 ++ zip_with (sin_half f) u1 u2

-- 5, normal f32: u1 from the low half and u2 from the high half of a word
abbrev pub normal_f32s : Kind Float
normal_f32s = record { places = 16; draws = 1; group = λ w. normals_of binary32 (lows (w 0)) (highs (w 0)); width = 4; bits = to_bits binary32; blank = numbers.zero }

-- 6, normal f64: u1 from a word of the group's first draw, u2 from that of its second
abbrev pub normal_f64s : Kind Float
normal_f64s = record { places = 16; draws = 2; group = λ w. normals_of binary64 (w 0) (w 1); width = 8; bits = to_bits binary64; blank = numbers.zero }

-- 7, f32: the unit that is never 0 of each element of kind 2 (change request K1)
abbrev pub open01_f32s : Kind Float
open01_f32s = floats_of binary32 (open01 binary32) u32s

-- 8, f64: the unit that is never 0 of each element of kind 1
abbrev pub open01_f64s : Kind Float
open01_f64s = floats_of binary64 (open01 binary64) u64s

-- the table: kind k is its row k, counted from 1
pub record AnyKind : Type 1 where
  pub Element : Type 0
  pub kind : Kind Element

abbrev pub of : {A : Type 0} → Kind A → AnyKind
of {A} K = record { Element = A; kind = K }

abbrev pub kinds : List AnyKind
kinds = of u64s ∷ of u32s ∷ of f32s ∷ of f64s ∷ of normal_f32s ∷ of normal_f64s ∷ of open01_f32s ∷ of open01_f64s ∷ []

-- whether k is the number of a kind
abbrev pub is_kind : ℕ → Bool
is_kind k = leb 1 k && leb k (length kinds)

unfoldable pub kind_at : ℕ → AnyKind
kind_at k = get_or kinds (k - 1) (of u64s)
