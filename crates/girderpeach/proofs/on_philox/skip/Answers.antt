use Rattle.base.specs.Iterate.{iterate}
use Rattle.girderpeach.specs.Philox.{forms}
use Rattle.girderpeach.proofs.Engines.{philox_sized}
use Rattle.girderpeach.proofs.Host.{called_saved}
use Rattle.std.proofs.Common.{ap, ◌∙◌}
use Rattle.girderpeach.proofs.on_philox.skip.Goals as goal

pub returns : goal.returns
returns c =
    let l = c.in_ok-rng.ensures in
    called_saved philox_sized (ap (λ x. x.refusal) l) c.save.ensures
    (ap forms.form (c.skip.ensures ∙ ap (λ x. iterate forms.engine.next c.args.draws x.value) l))
