-- Eight groups at a time: the groups that the halves of 64 lanes hold. Assumes nothing.
use mathlib.Core.List.{List, map, ◌++◌}
use mathlib.Core.Path.{◌≡◌, sym, ap, ◌∙◌}
use Prim.Native.Nat.{ℕ, ◌+◌, ◌*◌, ◌/◌, ◌%◌, ◌^◌, ◌<◌}
use native.Mathlib.Omega.{arith}
use lib.ListN.{get_or, drop}
use lib.Seq.{get_or-drop}
use lib.Ieee.{Float, binary32, nan}
use Rattle.base.specs.Engine.{draw_of}
use Rattle.base.specs.Table.{table}
use Rattle.base.specs.Zip.{zip_with}
use Rattle.base.proofs.Zip.{map-table, zip-part}
use Rattle.fills.specs.Kinds.{lows, highs, normal_f32s}
use Rattle.math.specs.BoxMuller.{cos_half, sin_half}
use Rattle.floats.specs.units.Unit.{unit, one_minus_unit}

-- the lane of u1 that a word makes, and that of u2
abbrev first : ℕ → Float
first w = one_minus_unit binary32 (w % 2 ^ 32)

abbrev second : ℕ → Float
second w = unit binary32 (w / 2 ^ 32)

module _ (b : List ℕ) (g j : ℕ) (h : j < 8) {u1 u2 : List Float} (p : u1 ≡ table 64 (λ k. first (get_or b (8 * g + k) 0))) (q : u2 ≡ table 64 (λ k. second (get_or b (8 * g + k) 0))) where
  left : List ℕ
  left = drop (1 * g * 8) b

  lane : (f : ℕ → Float) (k : ℕ) → f (get_or b (8 * g + (j * 8 + k)) 0) ≡ f (get_or left ((1 * j + 0) * 8 + k) 0)
  unfolding left
  lane f k = ap f (ap (λ (i : ℕ). get_or b i 0) (omega arith) ∙ sym (get_or-drop (1 * g * 8) b ((1 * j + 0) * 8 + k) 0))

  low : map (one_minus_unit binary32) (lows (draw_of left (1 * j + 0))) ≡ table 8 (λ k. first (get_or left ((1 * j + 0) * 8 + k) 0))
  unfolding draw_of
  low = ap (map (one_minus_unit binary32)) (map-table (λ w. w % 2 ^ 32) 8 _) ∙ map-table (one_minus_unit binary32) 8 _

  high : map (unit binary32) (highs (draw_of left (1 * j + 0))) ≡ table 8 (λ k. second (get_or left ((1 * j + 0) * 8 + k) 0))
  unfolding draw_of
  high = ap (map (unit binary32)) (map-table (λ w. w / 2 ^ 32) 8 _) ∙ map-table (unit binary32) 8 _

  -- lanes j * 8 to j * 8 + 7 of a half are that half of the group
  eight : (half : Float → Float → Float) {z v : List Float} → z ≡ zip_with half u1 u2 → v ≡ table 8 (λ k. get_or z (j * 8 + k) nan)
      → v ≡ zip_with half (map (one_minus_unit binary32) (lows (draw_of left (1 * j + 0)))) (map (unit binary32) (highs (draw_of left (1 * j + 0))))
  eight half r e =
      zip-part half nan 64 (j * 8) _ _ _ _ (r ∙ (λ i. zip_with half (p i) (q i))) e (omega arith) (λ k l. lane first k) (λ k l. lane second k)
      ∙ sym (λ i. zip_with half (low i) (high i))

  -- group j, from its lanes of the cosine halves z and the sine halves y
  pub eight-group : {z y v w : List Float} → z ≡ zip_with (cos_half binary32) u1 u2 → y ≡ zip_with (sin_half binary32) u1 u2 → v ≡ table 8 (λ k. get_or z (j * 8 + k) nan)
      → w ≡ table 8 (λ k. get_or y (j * 8 + k) nan) → v ++ w ≡ normal_f32s.group (λ m. draw_of (drop (1 * g * 8) b) (1 * j + m))
  unfolding left
  eight-group ez ey ev ew = λ i. eight (cos_half binary32) ez ev i ++ eight (sin_half binary32) ey ew i
