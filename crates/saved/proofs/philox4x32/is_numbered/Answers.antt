use Rattle.std.proofs.Common.{not, sym, ap, ◌∙◌, rules}
use Rattle.saved.proofs.philox4x32.Form.{none-waits, compared}
use Rattle.saved.proofs.philox4x32.is_numbered.Goals as goal

pub returns-then-not-g : goal.returns-then-not-g
returns-then-not-g c = ap not c.if-not-g.true ∙ sym (none-waits c.args.g c.if-not-g.true)

pub returns-else-not-g : goal.returns-else-not-g
returns-else-not-g c = c.eq.ensures ∙ compared c.args.g c.if-not-g.false (search rules) c.upper_words.ensures
