-- The bytes of a group, and four groups at a time: the loops that lay 32 lanes out, and the groups that their halves hold. Assumes nothing.
use mathlib.Core.List.{List, map, ◌++◌}
use mathlib.Core.Path.{◌≡◌, sym, ap, ◌∙◌}
use Prim.Native.Nat.{ℕ, ◌+◌, ◌*◌, ◌/◌, ◌%◌, ◌≤◌, ◌<◌}
use native.Mathlib.Omega.{arith}
use lib.ListN.{length, get_or, set, drop}
use lib.Seq.{get_or-drop}
use lib.Ieee.{Float, binary64, nan, to_bits}
use Rattle.base.specs.Engine.{draw_of}
use Rattle.base.specs.Bytes.{le_bytes, flat}
use Rattle.base.specs.Stored.{stored}
use Rattle.base.specs.Table.{table}
use Rattle.base.specs.Zip.{zip_with}
use Rattle.base.proofs.Bytes.{length-le_bytes, flat_map, flat_append, flat-length}
use Rattle.base.proofs.Stored.{stored-two}
use Rattle.base.proofs.Table.{Tabled, tabled_none, tabled_more, tabled_end}
use Rattle.base.proofs.Zip.{map-table, zip-part}
use Rattle.fills.specs.FillBytes.{bytes_of}
use Rattle.fills.specs.Kinds.{normal_f64s}
use Rattle.math.specs.BoxMuller.{cos_half, sin_half}
use Rattle.floats.specs.units.Unit.{unit, one_minus_unit}
use Rattle.normals.specs.normal_f64s.Four.{rows}

-- ---- the patterns of the halves of a group, stored as bytes
pub halves_bytes : (l : List ℕ) (at : ℕ) (c s : List Float) {x y m out : List ℕ} → length c ≡ 8 → x ≡ map (to_bits binary64) c → y ≡ map (to_bits binary64) s
    → m ≡ stored l at (flat (le_bytes 8) x) → out ≡ stored m (at + 64) (flat (le_bytes 8) y) → out ≡ stored l at (flat (bytes_of normal_f64s) (c ++ s))
halves_bytes l at c s {x} {y} {m} h ex ey em eo =
    let f = bytes_of normal_f64s in
    let bytes : (z : List Float) → flat (le_bytes 8) (map (to_bits binary64) z) ≡ flat f z = flat_map (le_bytes 8) (to_bits binary64) in
    stored-two l at (flat f c) (flat f s) (em ∙ ap (stored l at) (ap (flat (le_bytes 8)) ex ∙ bytes c)) (omega (arith, flat-length f 8 (λ a. length-le_bytes 8 (to_bits binary64 a)) c))
    (eo ∙ ap (stored m (at + 64)) (ap (flat (le_bytes 8)) ey ∙ bytes s)) ∙ ap (stored l at) (sym (flat_append f c s))

-- ---- j rows of eight are made, and l lanes of the next
pub record Rowing (f : ℕ → Float) (b : List ℕ) (n : ℕ) (x : List Float) (j l : ℕ) : Type 0 where
  pub made : Tabled 32 (rows f b n) nan x (8 * j + l)
  pub few : l ≤ 8

module _ {f : ℕ → Float} {b : List ℕ} {n : ℕ} {x : List Float} where
  pub rows_none : length x ≡ 32 → Rowing f b n x 0 0
  rows_none e = record { made = tabled_none e; few = omega arith }

  module _ {j l : ℕ} (w : Rowing f b n x j l) where
    pub rows_more : {v : Float} → j < 4 → l < 8 → (m : ℕ) → v ≡ f (get_or b m 0) → m ≡ n + 16 * j + l → Rowing f b n (set x (8 * j + l) v) j (l + 1)
    rows_more h k m e p =
        let next : 8 * j + (l + 1) ≡ 8 * j + l + 1 = omega arith in
        let place : m ≡ n + 16 * ((8 * j + l) / 8) + (8 * j + l) % 8 = omega arith in
        record { made = rw next (tabled_more w.made (omega arith) (e ∙ ap (λ (i : ℕ). f (get_or b i 0)) place)); few = omega arith }

    pub rows_next : 8 ≤ l → Rowing f b n x (j + 1) 0
    rows_next h = let next : 8 * (j + 1) + 0 ≡ 8 * j + l = omega (arith, w.few) in record { made = rw next w.made; few = omega arith }

    pub rows_end : 4 ≤ j → x ≡ table 32 (rows f b n)
    rows_end h = tabled_end w.made (omega arith)

-- ---- group j of the four, from the lanes of all
module _ (b : List ℕ) (g j : ℕ) (h : j < 4) {u1 u2 : List Float} (p : u1 ≡ table 32 (rows (one_minus_unit binary64) b (16 * g))) (q : u2 ≡ table 32 (rows (unit binary64) b (16 * g + 8))) where
  left : List ℕ
  left = drop (2 * g * 8) b

  lane : (f : ℕ → Float) (n m k : ℕ) → n + 16 * ((j * 8 + k) / 8) + (j * 8 + k) % 8 ≡ 2 * g * 8 + m → rows f b n (j * 8 + k) ≡ f (get_or left m 0)
  unfolding left
  lane f n m k e = ap (λ (i : ℕ). f (get_or b i 0)) e ∙ ap f (sym (get_or-drop (2 * g * 8) b m 0))

  drawn : (f : ℕ → Float) (d : ℕ) → map f (draw_of left d) ≡ table 8 (λ k. f (get_or left (d * 8 + k) 0))
  unfolding draw_of
  drawn f d = map-table f 8 _

  -- lanes j * 8 to j * 8 + 7 of a half are that half of the group
  eight : (half : Float → Float → Float) {z v : List Float} → z ≡ zip_with half u1 u2 → v ≡ table 8 (λ k. get_or z (j * 8 + k) nan)
      → v ≡ zip_with half (map (one_minus_unit binary64) (draw_of left (2 * j + 0))) (map (unit binary64) (draw_of left (2 * j + 1)))
  eight half r e =
      zip-part half nan 32 (j * 8) _ _ _ _ (r ∙ (λ i. zip_with half (p i) (q i))) e (omega arith)
      (λ k l. lane (one_minus_unit binary64) (16 * g) ((2 * j + 0) * 8 + k) k (omega arith))
      (λ k l. lane (unit binary64) (16 * g + 8) ((2 * j + 1) * 8 + k) k (omega arith))
      ∙ sym (λ i. zip_with half (drawn (one_minus_unit binary64) (2 * j + 0) i) (drawn (unit binary64) (2 * j + 1) i))

  -- group j, from its lanes of the cosine halves z and the sine halves y
  pub four_group : {z y v w : List Float} → z ≡ zip_with (cos_half binary64) u1 u2 → y ≡ zip_with (sin_half binary64) u1 u2 → v ≡ table 8 (λ k. get_or z (j * 8 + k) nan)
      → w ≡ table 8 (λ k. get_or y (j * 8 + k) nan) → v ++ w ≡ normal_f64s.group (λ m. draw_of (drop (2 * g * 8) b) (2 * j + m))
  unfolding left
  four_group ez ey ev ew = λ i. eight (cos_half binary64) ez ev i ++ eight (sin_half binary64) ey ew i
