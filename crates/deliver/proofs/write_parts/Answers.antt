use Rattle.std.proofs.Common.{refl, sym, ◌∙◌}
use Rattle.delivery.proofs.parts.Looping.{looping_none, looping_more}
use Rattle.deliver.proofs.write_parts.Goals as goal

pub loop-rest-init : goal.loop-rest-init
loop-rest-init c = (refl, refl, looping_none c.requires)

pub loop-rest-preserved : goal.loop-rest-preserved
loop-rest-preserved c =
    let p = c.next_part-part.ensures in
    (c.loop-rest.invariant.0 ∙ sym p.same.0, c.loop-rest.invariant.1 ∙ sym p.same.1, looping_more c.loop-rest.invariant.2 p)
