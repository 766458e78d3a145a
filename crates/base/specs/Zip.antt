-- Two lists joined element by element, as long as the shorter one.
use Rattle.std.specs.Prelude.{List, [], ◌∷◌}

abbrev pub zip_with : {A B C : Type 0} → (A → B → C) → List A → List B → List C
zip_with f [] ys = []
zip_with f (x ∷ xs) [] = []
zip_with f (x ∷ xs) (y ∷ ys) = f x y ∷ zip_with f xs ys
