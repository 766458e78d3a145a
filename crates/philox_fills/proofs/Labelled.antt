-- A fill with its label, from the draws that were made for it. Assumes nothing.
use mathlib.Core.List.{List}
use mathlib.Core.Path.{◌≡◌, refl}
use Rattle.elements.specs.declared.engine.Made.{Made}
use Rattle.fills.specs.Fill.{Kind, Filled}
use Rattle.philox.specs.x8.Machine.{label_of, engine}
use Rattle.philox.specs.declared.x8.Philox4x32X8.{Philox4x32X8}
use Rattle.philox_fills.specs.Labelled.{LabelledFill}
use Rattle.philox_fills.specs.declared.fill_words.Fill.{Fill}

pub labelled-fill : {A : Type 0} {K : Kind A} {g : Philox4x32X8} {before after : List A} {made : Made Philox4x32X8} {r : Fill}
    → Filled engine K g before after made.draws made.rng → r ≡ record { draws = made.draws; label = label_of g; rng = made.rng }
    → LabelledFill K g before after r
labelled-fill F e = rw e (F, refl)
