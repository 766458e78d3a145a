-- A list with other elements stored in it.
use Rattle.std.specs.Prelude.{List, ℕ}
use Rattle.std.proofs.lemmas.List.Edits.{sets}

-- l with v in the places from at on, as far as l has them
unfoldable pub stored : {A : Type 0} → List A → ℕ → List A → List A
stored l at v = sets l at v
