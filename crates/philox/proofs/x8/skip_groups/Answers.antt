use Rattle.philox.proofs.x8.Skipping.{sought_even, sought_odd}
use Rattle.philox.proofs.x8.skip_groups.Goals as goal

pub returns-then-n-eq0 : goal.returns-then-n-eq0
returns-then-n-eq0 c =
    let g = c.args.g in
    sought_even g g.counter _ c.groups_on.ensures c.seek-rng.ensures c.if-n-eq0.true

pub returns : goal.returns
returns c =
    let g = c.args.g in
    sought_odd g g.counter _ c.groups_on.ensures c.seek-rng.ensures c.if-n-eq0.false c.next_u64x8-draw.ensures
