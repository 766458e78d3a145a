use Rattle.std.proofs.Common.{ap, ◌∙◌}
use Rattle.xoshiro.specs.rows.Lanes.{outputs, stepped}
use Rattle.xoshiro.specs.x8.Lanes.{of_rows}
use Rattle.xoshiro.specs.x8.Calls.{drawn, words_of, next_of}
use Rattle.xoshiro.proofs.x8.Xoshiro256ppX8.next_u64x8.Goals as goal

pub returns : goal.returns
unfolding drawn words_of next_of
returns c =
    let e = c.rows_of-rows.ensures in
    let words = c.output-words.ensures ∙ ap outputs e in
    let rng = c.of_rows-rng.ensures ∙ ap of_rows (c.step-after.ensures ∙ ap stepped e) in
    λ i. record { words = words i; rng = rng i }
