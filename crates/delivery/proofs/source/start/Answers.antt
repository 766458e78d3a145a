use Rattle.std.proofs.Common.{ap, ◌∙◌}
use Rattle.philox.specs.x8.Machine as philox
use Rattle.xoshiro.specs.x8.Calls as xoshiro
use Rattle.xoshiro.specs.declared.x8.Placed.{Placed}
use Rattle.delivery.proofs.source.Engines.{started_1, started_2}
use Rattle.delivery.proofs.source.start.Goals as goal

pub returns-then-engine-eq1 : goal.returns-then-engine-eq1
returns-then-engine-eq1 c =
    let a = c.args in
    started_1 c.if-engine-eq1.true a.seed a.block a.first (c.skip.ensures ∙ ap (λ (x : Placed). xoshiro.skipped a.first x.rng) c.from_seed_block.ensures)

pub returns : goal.returns
returns c =
    let a = c.args in
    started_2 c.if-engine-eq1.false a.seed a.block a.first (c.skip-2.ensures ∙ ap (philox.skipped a.first) c.new.ensures)
