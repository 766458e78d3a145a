use Rattle.std.proofs.Common.{◌≡◌, length, rules}
use Rattle.base.proofs.Arrays.{from_fn}
use Rattle.xoshiro.specs.scalar.Calls.{generator, steps_made}
use Rattle.xoshiro.specs.x8.Claims.{Eights}
use Rattle.xoshiro.specs.x8.Lanes.{lane_of}
use Rattle.xoshiro.proofs.x8.Draws.{skipped_by}
use Rattle.xoshiro.proofs.x8.Xoshiro256ppX8.skip.Goals as goal

pub returns : goal.returns
returns c =
    let a = c.args in
    let row0 : length a.self.s0 ≡ 8 = search rules in
    let row1 : length a.self.s1 ≡ 8 = search rules in
    let row2 : length a.self.s2 ≡ 8 = search rules in
    let row3 : length a.self.s3 ≡ 8 = search rules in
    let eights : Eights a.self = record { row0 = row0; row1 = row1; row2 = row2; row3 = row3 } in
    let lanes = from_fn _ (λ i. steps_made a.n (generator (lane_of a.self i))) (λ q i y h k. (search rules, search rules)) c.from_fn.ensures.items in
    skipped_by a.n a.self eights lanes c.of_lanes.ensures
