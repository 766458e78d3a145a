use Rattle.std.proofs.Common.{refl}
use Rattle.delivery.proofs.parts.Made.{part-filled}
use Rattle.delivery.proofs.parts.fill_part.Goals as goal

pub returns : goal.returns
returns c =
    let r = c.fill_bytes.result in
    part-filled r c.places-n.ensures.0 c.width.ensures.0 refl c.fill_bytes.ensures c.unwrap_or-f.ensures c.wrapping_add_u64.ensures.value
