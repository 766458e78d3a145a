use Rattle.saved.proofs.fields.Tests.{zeros_tested}
use Rattle.saved.specs.philox4x32.Form.{is_form}
use Rattle.std.proofs.Common.{Bool, ◌&&◌, ◌||◌, eqb, ap, ◌∙◌, rules}
use Rattle.saved.proofs.philox4x32.is_form.Goals as goal

pub returns : goal.returns
unfolding is_form
returns c =
    let m = c.args.mark in
    let n = c.args.number in
    ap (λ (b : Bool). eqb m 1 || (eqb m 0 && b && eqb n 0)) (c.eq.ensures ∙ zeros_tested 8 c.args.pending (search rules))
