use Rattle.base.proofs.Arrays.{from_fn}
use Rattle.saved.proofs.xoshiro256pp.Form.{load-long, load_short}
use Rattle.std.proofs.Common.{rules}
use Rattle.saved.proofs.xoshiro256pp.load.Goals as goal

pub returns-else-form-eq256 : goal.returns-else-form-eq256
returns-else-form-eq256 c = load_short _ c.if-form-eq256.false

pub returns-then-form-eq256 : goal.returns-then-form-eq256
returns-then-form-eq256 c =
    load-long _ c.if-form-eq256.true c.from_lanes.ensures
    (from_fn _ _ (λ q i y l k. (search rules, search rules)) c.from_fn.ensures.items)
