use Rattle.std.proofs.Common.{◌∙◌}
use Rattle.philox.proofs.x8.Machine.{drawn-fresh}
use Rattle.philox.proofs.x8.Philox4x32X8.next_u64x8.Goals as goal

pub returns : goal.returns
returns c =
    c.first_draw.ensures
    ∙ drawn-fresh c.args.self c.if-self.false c.eight_blocks-group.ensures c.joined-words.ensures c.joined-pending.ensures c.wrapping_add_u64.ensures.value
