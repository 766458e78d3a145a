use Rattle.girderpeach.proofs.Draws.{few_left}
use Rattle.girderpeach.specs.Host.{answer_of}
use Rattle.philox.specs.x8.Machine.{left_of}
use Rattle.std.proofs.Common.{w64, pos, ap, ◌∙◌, arith}
use mir.Facts.{to_z_pos}
use Rattle.girderpeach.proofs.on_philox.draws_left.Goals as goal

pub overflow_cast-result : goal.overflow_cast-result
overflow_cast-result c = let few = few_left _ c.draws_left.ensures in record { sfits = omega arith }

pub returns : goal.returns
returns c =
    to_z_pos w64 (few_left _ c.draws_left.ensures) ∙ ap pos c.draws_left.ensures
    ∙ ap (λ x. answer_of x.refusal (left_of x.value)) c.in_ok-rng.ensures
