-- What the fills of Philox promise besides what every fill does: the label of their first draw. A fill that makes no draws has the label of
-- the next draw, and a refused one a label of zero bits.
use Rattle.std.specs.Prelude.{false, List, ◌≡◌, ℕ, Result}
use Rattle.base.specs.Refusal.{Answer, answer_of}
use Rattle.base.specs.Refused.{unless}
use Rattle.base.specs.declared.refusal.Refusal.{Refusal}
use Rattle.fills.specs.Fill.{Kind, Filled}
use Rattle.fills.specs.FillBytes.{FilledBytes}
use Rattle.philox.specs.x8.Machine.{label_of, engine}
use Rattle.philox.specs.declared.x8.Label.{Label}
use Rattle.philox.specs.declared.x8.Philox4x32X8.{Philox4x32X8}
use Rattle.philox_fills.specs.declared.fill_words.Fill.{Fill}

-- zero bits
abbrev pub no_label : Label
no_label = record { first = 0; upper = false }

abbrev pub LabelledFill : {A : Type 0} → Kind A → Philox4x32X8 → List A → List A → Fill → Type 0
LabelledFill K g before after r = Filled engine K g before after r.draws r.rng × (r.label ≡ label_of g)

-- what the result of a byte fill of the generator g says: a refused one has no label, makes no draws and leaves g
abbrev pub answered : Philox4x32X8 → Result Fill Refusal → Answer Fill
answered g = answer_of (record { draws = 0; label = no_label; rng = g })

abbrev pub LabelledBytes : ℕ → Philox4x32X8 → List ℕ → List ℕ → Answer Fill → Type 0
LabelledBytes k g before after a =
    FilledBytes engine k g before after a.refusal a.value.draws a.value.rng × (a.value.label ≡ unless a.refusal (label_of g) no_label)
