use Rattle.std.proofs.Common.{refl}
use Rattle.base.specs.Engine.{draw_of}
use Rattle.philox.proofs.draws.Draws.{upper-drawn}
use Rattle.philox.proofs.draws.upper_words.Goals as goal

pub returns : goal.returns
unfolding draw_of
returns c =
    let a = c.args in
    upper-drawn a.g a.n refl c.put_groups.ensures c.half.ensures
