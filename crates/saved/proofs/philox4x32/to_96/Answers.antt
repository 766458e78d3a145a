use Rattle.saved.proofs.philox4x32.Form.{load-accepted}
use Rattle.std.proofs.Common.{◌≤◌, rules, length, sym, ap, arith, length-take-le}
use Rattle.saved.proofs.philox4x32.to_96.Goals as goal

pub slice_bounds-copy_from_slice-end : goal.slice_bounds-copy_from_slice-end
slice_bounds-copy_from_slice-end c =
    let long = (load-accepted c.args.form.now (sym (ap (λ x. x.refusal) c.in_ok-load.ensures))).long in
    let enough : 96 ≤ length c.args.form.now = omega arith in
    search (rules, enough)

pub copy_from_slice-requires : goal.copy_from_slice-requires
copy_from_slice-requires c =
    let long = (load-accepted c.args.form.now (sym (ap (λ x. x.refusal) c.in_ok-load.ensures))).long in
    omega (arith, length-take-le 96 c.args.form.now (omega arith))
