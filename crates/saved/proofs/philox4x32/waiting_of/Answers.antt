use Rattle.saved.proofs.philox4x32.Form.{waiting_words}
use Rattle.std.proofs.Common.{◌≡◌, length, rules}
use Rattle.saved.proofs.philox4x32.waiting_of.Goals as goal

pub returns-then-g : goal.returns-then-g
returns-then-g c =
    let g = c.args.g in
    let long : length g.pending ≡ 8 = search rules in
    waiting_words g c.if-g.true long
