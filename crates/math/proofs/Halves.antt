-- Either half of the transform, from the lists that the four loops make one after another. Once for both formats and both halves. Assumes nothing.
use mathlib.Core.List.{List, map}
use mathlib.Core.Path.{◌≡◌, ap, ◌∙◌}
use Rattle.base.specs.Zip.{zip_with}
use Rattle.base.proofs.Zip.{map-map, zip_maps}

module _ {A : Type 0} (ln twice sqrt : A → A) (mul : A → A → A) (u1 : List A) {l a r : List A} (p : l ≡ map ln u1) (q : a ≡ map twice l) (o : r ≡ map sqrt a) where
  radii : r ≡ map (λ x. sqrt (twice (ln x))) u1
  radii = o ∙ ap (map sqrt) (q ∙ ap (map twice) p ∙ map-map twice ln u1) ∙ map-map sqrt (λ x. twice (ln x)) u1

  pub half : (g : A → A) (u2 : List A) {t out : List A} → t ≡ map g u2 → out ≡ zip_with mul r t → out ≡ zip_with (λ x y. mul (sqrt (twice (ln x))) (g y)) u1 u2
  half g u2 {t} e h =
      h ∙ ap (λ (x : List A). zip_with mul x t) radii
      ∙ ap (zip_with mul (map (λ x. sqrt (twice (ln x))) u1)) e ∙ zip_maps mul (λ x. sqrt (twice (ln x))) g u1 u2
