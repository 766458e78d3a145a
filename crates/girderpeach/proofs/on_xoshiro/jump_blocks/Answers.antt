use Rattle.base.proofs.Refused.{unless-none}
use Rattle.girderpeach.specs.Xoshiro.{forms}
use Rattle.girderpeach.proofs.Engines.{xoshiro_sized}
use Rattle.girderpeach.proofs.Host.{called_saved}
use Rattle.std.proofs.Common.{sym, ap, ◌∙◌}
use Rattle.xoshiro.specs.x8.Calls.{moved_blocks}
use Rattle.girderpeach.proofs.on_xoshiro.jump_blocks.Goals as goal

pub returns : goal.returns
returns c =
    let l = c.in_ok-load.ensures in
    let z = ap (λ x. x.refusal) l in
    let m = c.jump_blocks-moved.ensures ∙ ap (λ x. moved_blocks c.args.n x.value) l in
    record {
      called = called_saved xoshiro_sized z c.save.ensures (ap (λ x. forms.form x.rng) m);
      counts = ap (λ x. x.jumps) m ∙ sym (unless-none _ (sym z) _ _);
    }
