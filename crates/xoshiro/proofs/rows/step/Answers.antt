use Rattle.std.proofs.Common.{◌≡◌, length, rules}
use Rattle.xoshiro.proofs.rows.Lanes.{stepped_in_place}
use Rattle.xoshiro.proofs.rows.step.Goals as goal

pub returns : goal.returns
returns c =
    let rows = c.args.rows in
    let long : length rows ≡ 4 = search rules in
    stepped_in_place rows long
    c.shl-t.ensures
    c.xor.ensures
    c.xor-2.ensures
    c.xor-3.ensures
    c.xor-4.ensures
    c.xor-5.ensures
    c.rotl.ensures
