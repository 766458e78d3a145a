use Rattle.base.specs.Engine.{draw_of}
use Rattle.std.proofs.Common.{refl, ◌∙◌}
use Rattle.philox.proofs.draws.Draws.{both_drawn}
use Rattle.philox.proofs.draws.draw.Goals as goal

pub returns : goal.returns
unfolding draw_of
returns c =
    c.first_draw.ensures
    ∙ both_drawn c.args.g c.if-g.false refl c.put_groups-counter.ensures c.half-words.ensures c.half-pending.ensures
