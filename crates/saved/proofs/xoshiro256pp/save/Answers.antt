use Rattle.saved.proofs.fields.Saved.{save_done}
use Rattle.saved.proofs.xoshiro256pp.Form.{rows-stored}
use Rattle.std.proofs.Common.{rules}
use Rattle.saved.proofs.xoshiro256pp.save.Goals as goal

pub returns : goal.returns
returns c =
    let long = c.if-form-ne256.false in
    save_done long
    (rows-stored c.args.g _ long (record { row0 = search rules; row1 = search rules; row2 = search rules; row3 = search rules })
    c.put_words.ensures c.put_words-2.ensures c.put_words-3.ensures c.put_words-4.ensures)
