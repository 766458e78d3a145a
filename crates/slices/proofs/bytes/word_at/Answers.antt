use Rattle.slices.proofs.bytes.Flats.{few_of_eight}
use mathlib.Core.Path.{ap, refl, ◌∙◌}
use Rattle.base.specs.Bytes.{le_nat}
use lib.ListN.{take, length-drop}
use lib.Seq.{take_all}
use mathlib.Core.List.{List}
use native.Mathlib.Omega.{arith}
use Prim.Native.Nat.{ℕ}
use Rattle.slices.proofs.bytes.word_at.Goals as goal

pub returns : goal.returns
returns c =
    c.from_le_bytes-2.ensures ∙ few_of_eight _ _ _ refl refl c.in_default.ensures.cases c.put_slice.ensures
    ∙ ap (λ (l : List ℕ). le_nat (take 8 l)) (take_all _ _ (rw length-drop (omega arith)))
