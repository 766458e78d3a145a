use Rattle.delivery.proofs.parts.Shown.{raw-part, text_part}
use Rattle.delivery.proofs.parts.next_part.Goals as goal

pub returns-then-d : goal.returns-then-d
returns-then-d c = raw-part c.if-d.true c.fill_part.ensures

pub returns : goal.returns
returns c =
    let l = c.put_lines-bytes.ensures in
    text_part _ _ _ c.text_room-room.ensures.0 c.fill_part-part.ensures c.if-d.false l.put l.counts
