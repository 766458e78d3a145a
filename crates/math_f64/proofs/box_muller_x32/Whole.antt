-- The arrays that the five loops leave one after another are the halves of the transform. Assumes nothing.
use Rattle.std.proofs.Common.{◌≡◌, ℕ, ◌<◌, List, length, ap, ◌∙◌}
use lib.Ieee.{Float, binary64, nan, mul}
use Rattle.base.specs.Table.{table}
use Rattle.base.specs.Zip.{zip_with}
use Rattle.base.proofs.Table.{length-table, placed, table_same}
use Rattle.base.proofs.Zip.{table-zip}
use Rattle.math.specs.BoxMuller.{minus_twice, radius, cos_half, sin_half}
use Rattle.math.specs.Sqrt.{sqrt}
use Rattle.math.specs.Turns.{angle}
use Rattle.math_f64.specs.ln.Parts.{parts_of, series_start, series_end}
use Rattle.math_f64.proofs.ln.Whole.{whole as whole-ln}
use Rattle.math_f64.specs.sincos_turns.Lanes.{sin_start, cos_start}
use Rattle.math.specs.Lanes.{lane_of}
use Rattle.math.specs.declared.cos_sin.CosSin.{CosSin}
use Rattle.math_f64.proofs.sincos_turns.Whole.{whole as whole-turn}
use Rattle.math_f64.specs.box_muller_x32.Stages.{at, ended, cos_last, sin_last}

pub long : (f : ℕ → Float) {l : List Float} → l ≡ table 32 f → length l ≡ 32
long f e = ap length e ∙ length-table 32 f

-- the radii r, by way of the ratios s, the exponents e, the polynomials p and the logarithms q of the lanes x
pub radii : (x : List Float) {s e p q r : List Float} → s ≡ table 32 (λ i. (parts_of (at x i)).s) → e ≡ table 32 (λ i. (parts_of (at x i)).e)
    → p ≡ table 32 (λ i. series_start (parts_of (at x i)).s) → q ≡ table 32 (λ i. minus_twice binary64 (series_end (at s i) (at e i) (at p i))) → r ≡ table 32 (λ i. sqrt binary64 (at q i))
    → r ≡ table 32 (λ i. radius binary64 (at x i))
unfolding radius
radii x es ee ep eq er =
    er
    ∙ table_same 32 _ _ (λ i h. ap (sqrt binary64) (placed 32 nan _ eq i h ∙ ap (minus_twice binary64) ((λ k. series_end (placed 32 nan _ es i h k) (placed 32 nan _ ee i h k) (placed 32 nan _ ep i h k)) ∙ whole-ln (at x i))))

-- the halves, from those of the lanes x and by way of the angles th and the polynomials s and c of the turns t
module _ (x t : List Float) {r th s c : List Float} (hx : length x ≡ 32) (ht : length t ≡ 32) (er : r ≡ table 32 (λ i. radius binary64 (at x i)))
    (et : th ≡ table 32 (λ i. angle binary64 (at t i))) (es : s ≡ table 32 (λ i. sin_start (angle binary64 (at t i)))) (ec : c ≡ table 32 (λ i. cos_start (angle binary64 (at t i)))) where
  turned : (i : ℕ) → i < 32 → ended (at t i) (at th i) (at s i) (at c i) ≡ lane_of binary64 (at t i)
  turned i h = (λ k. ended (at t i) (placed 32 nan _ et i h k) (placed 32 nan _ es i h k) (placed 32 nan _ ec i h k)) ∙ whole-turn (at t i)

  half : (of : CosSin Float → Float) {out : List Float} → out ≡ table 32 (λ i. mul binary64 (at r i) (of (ended (at t i) (at th i) (at s i) (at c i))))
      → out ≡ zip_with (λ a b. mul binary64 (radius binary64 a) (of (lane_of binary64 b))) x t
  half of e =
      e ∙ table_same 32 _ _ (λ i h k. mul binary64 (placed 32 nan _ er i h k) (of (turned i h k))) ∙ table-zip (λ a b. mul binary64 (radius binary64 a) (of (lane_of binary64 b))) nan nan 32 x t hx ht

  pub cosines : {out : List Float} → out ≡ table 32 (λ i. cos_last (at r i) (at t i) (at th i) (at s i) (at c i)) → out ≡ zip_with (cos_half binary64) x t
  unfolding cos_half lane_of
  cosines e = half (λ z. z.cos) e

  pub sines : {out : List Float} → out ≡ table 32 (λ i. sin_last (at r i) (at t i) (at th i) (at s i) (at c i)) → out ≡ zip_with (sin_half binary64) x t
  unfolding sin_half lane_of
  sines e = half (λ z. z.sin) e
