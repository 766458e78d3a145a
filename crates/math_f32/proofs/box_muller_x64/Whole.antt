-- The arrays that the three loops leave one after another are the halves of the transform. Assumes nothing.
use Rattle.std.proofs.Common.{◌≡◌, ℕ, List, map, length, get_or, ap, ◌∙◌}
use lib.Ieee.{Float, binary32, nan, mul}
use Rattle.base.specs.Table.{table}
use Rattle.base.specs.Zip.{zip_with}
use Rattle.base.proofs.Table.{placed, table_same}
use Rattle.base.proofs.Zip.{table-map, table-zip}
use Rattle.math.specs.BoxMuller.{minus_twice, radius, cos_half, sin_half}
use Rattle.math.specs.Ln.{ln}
use Rattle.math.specs.Sqrt.{sqrt}
use Rattle.math.specs.Lanes.{lane_of}
use Rattle.math.specs.declared.cos_sin.CosSin.{CosSin}

abbrev at : List Float → ℕ → Float
at l i = get_or l i nan

module _ (x t : List Float) {q r : List Float} (hx : length x ≡ 64) (ht : length t ≡ 64) (eq : q ≡ table 64 (λ i. minus_twice binary32 (ln binary32 (at x i)))) (er : r ≡ table 64 (λ i. sqrt binary32 (at q i))) where
  rooted : r ≡ table 64 (λ i. radius binary32 (at x i))
  unfolding radius
  rooted = er ∙ table_same 64 _ _ (λ i h. ap (sqrt binary32) (placed 64 nan _ eq i h))

  pub radii : r ≡ map (radius binary32) x
  radii = rooted ∙ table-map (radius binary32) nan 64 x hx

  half : (of : CosSin Float → Float) {out : List Float} → out ≡ table 64 (λ i. mul binary32 (at r i) (of (lane_of binary32 (at t i))))
      → out ≡ zip_with (λ a b. mul binary32 (radius binary32 a) (of (lane_of binary32 b))) x t
  half of e =
      e ∙ table_same 64 _ _ (λ i h. ap (λ (a : Float). mul binary32 a (of (lane_of binary32 (at t i)))) (placed 64 nan _ rooted i h)) ∙ table-zip (λ a b. mul binary32 (radius binary32 a) (of (lane_of binary32 b))) nan nan 64 x t hx ht

  pub cosines : {out : List Float} → out ≡ table 64 (λ i. mul binary32 (at r i) (lane_of binary32 (at t i)).cos) → out ≡ zip_with (cos_half binary32) x t
  unfolding cos_half lane_of
  cosines e = half (λ z. z.cos) e

  pub sines : {out : List Float} → out ≡ table 64 (λ i. mul binary32 (at r i) (lane_of binary32 (at t i)).sin) → out ≡ zip_with (sin_half binary32) x t
  unfolding sin_half lane_of
  sines e = half (λ z. z.sin) e
