use Rattle.std.proofs.Common.{rules}
use Rattle.base.proofs.Arrays.{from_fn}
use Rattle.xoshiro.specs.scalar.Calls.{generator, jumps_made}
use Rattle.xoshiro.specs.x8.Lanes.{lane_of}
use Rattle.xoshiro.proofs.x8.Lanes.{moved_by}
use Rattle.xoshiro.proofs.x8.Xoshiro256ppX8.jump_blocks.Goals as goal

pub returns : goal.returns
returns c =
    let a = c.args in
    let lanes = from_fn _ (λ i. jumps_made c.wrapping_mul-jumps.result (generator (lane_of a.self i))) (λ q i y h k. (search rules, search rules)) c.from_fn.ensures.items in
    moved_by a.n a.self c.wrapping_mul-jumps.ensures lanes c.of_lanes-rng.ensures
