use Rattle.saved.proofs.philox4x32.Form.{words-stored, marked}
use Rattle.saved.proofs.fields.Saved.{save_done}
use Rattle.std.proofs.Common.{◌∙◌}
use Rattle.saved.proofs.philox4x32.save.Goals as goal

pub returns : goal.returns
returns c =
    let long = c.if-form-ne104.false in
    save_done long
    (words-stored _ _ long c.pair.result c.pair.ensures.1 (c.from.ensures ∙ marked c.args.g.waiting)
    c.waiting_of.ensures c.number_of.ensures c.put_word.ensures c.put_word-2.ensures c.put_word-3.ensures
    c.put_word-4.ensures
    c.put_words.ensures c.put_word-5.ensures)
