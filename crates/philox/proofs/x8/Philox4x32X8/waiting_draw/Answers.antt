use Rattle.std.proofs.Common.{◌≡◌, length, rules}
use Rattle.philox.proofs.x8.Machine.{drawn_waiting}
use Rattle.philox.proofs.x8.Philox4x32X8.waiting_draw.Goals as goal

pub returns : goal.returns
returns c =
    let g = c.args.self in
    let long : length g.pending ≡ 8 = search rules in
    drawn_waiting g c.requires long c.seek.ensures
