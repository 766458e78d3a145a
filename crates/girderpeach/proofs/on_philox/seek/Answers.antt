use Rattle.girderpeach.specs.Philox.{forms}
use Rattle.girderpeach.proofs.Engines.{philox_sized}
use Rattle.girderpeach.proofs.Host.{called_saved}
use Rattle.philox.specs.x8.Machine.{sought}
use Rattle.std.proofs.Common.{ap, ◌∙◌}
use Rattle.girderpeach.proofs.on_philox.seek.Goals as goal

pub returns : goal.returns
returns c =
    let l = c.in_ok-rng.ensures in
    called_saved philox_sized (ap (λ x. x.refusal) l) c.save.ensures
    (ap forms.form (c.seek.ensures ∙ ap (λ x. sought x.value c.args.block) l))
