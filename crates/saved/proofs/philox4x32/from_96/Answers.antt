use Rattle.saved.proofs.fields.Saved.{some_number}
use Rattle.std.proofs.lemmas.Result.{err_from_is_err_and}
use Rattle.saved.proofs.philox4x32.Moves.{number_put, move_short, move-refused, move_done, old_short}
use Rattle.saved.specs.philox4x32.Form.{loaded}
use Rattle.std.proofs.Common.{List, refl, ap, ◌∙◌, arith}
use Rattle.saved.proofs.philox4x32.from_96.Goals.{then-form-ne104-via-then-form-ne104, then-form-ne104-via-else-form-ne104+then-old-ne96}
use Rattle.saved.proofs.philox4x32.from_96.Goals as goal

pub returns-then-form-ne104 : goal.returns-then-form-ne104
returns-then-form-ne104 c = elim c.then-form-ne104.branch [
  | then-form-ne104-via-then-form-ne104 w ↦ move_short 104 _ w.if-form-ne104.true
  | then-form-ne104-via-else-form-ne104+then-old-ne96 w ↦
      move-refused 104 w.if-form-ne104.false (old_short c.args.old.now w.if-old-ne96.true) (λ z. omega arith)
]

pub returns-in_err-load : goal.returns-in_err-load
returns-in_err-load c =
    let moved = number_put c.args.old.now c.if-old-ne96.false c.copy_from_slice.ensures.after c.number_for.ensures c.put_word.ensures in
    let p = err_from_is_err_and c.from_residual.result c.from_residual.ensures.1 in
    rw (p.1, p.2)
    (move-refused 104 c.if-form-ne104.false (ap (λ x. x.refusal) c.in_err-load.ensures ∙ ap (λ (s : List _). (loaded s).refusal) moved)
    (some_number c.in_err-load.field-0.0))

pub returns : goal.returns
returns c =
    let moved = number_put c.args.old.now c.if-old-ne96.false c.copy_from_slice.ensures.after c.number_for.ensures c.put_word.ensures in
    move_done 104 c.if-form-ne104.false (ap (λ x. x.refusal) c.in_ok-load.ensures ∙ ap (λ (s : List _). (loaded s).refusal) moved) refl
    (c.copy_from_slice-2.ensures.after ∙ moved)
