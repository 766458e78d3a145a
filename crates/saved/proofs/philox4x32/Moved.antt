-- What stands in the slice after a move between forms of 96 and of 104 bytes. Assumes nothing.
use Rattle.std.proofs.Common.{◌≡◌, ℕ, List, length, take, ap, ◌∙◌, arith, length-append}
use Rattle.base.specs.Bytes.{le_bytes}
use Rattle.base.specs.Stored.{stored}
use Rattle.base.proofs.Stored.{stored-whole, stored-over}
use Rattle.saved.specs.fields.Fields.{fields}
use Rattle.saved.specs.philox4x32.Form.{loaded}
use Rattle.saved.specs.philox4x32.Moves.{layout96, number_for, with_number, without_number}
use Rattle.saved.proofs.philox4x32.Form.{load-accepted}

pub put_moved : (old form : List ℕ) {form' moved : List ℕ} → length form ≡ 104 → length old ≡ 96 → moved ≡ with_number old
    → form' ≡ stored form 0 moved
    → form' ≡ with_number old
put_moved old form ef eo em e =
    e ∙ ap (stored form 0) em ∙ stored-whole form (with_number old) (omega
    (arith, length-append old (le_bytes 8 (number_for (fields layout96 old)))))

pub put_first : (form old : List ℕ) {old' : List ℕ} → length old ≡ 96 → (loaded form).refusal ≡ 0 → old' ≡ stored old 0 form
    → old' ≡ without_number form
put_first form old eo ok e =
    let long = (load-accepted form ok).long in
    e ∙ stored-over old form (omega arith) ∙ ap (λ (n : ℕ). take n form) eo
