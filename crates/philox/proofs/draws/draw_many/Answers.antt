use Rattle.std.proofs.Common.{sym, ap}
use Rattle.philox.specs.x8.Machine.{drawn}
use Rattle.philox.specs.declared.x8.Draw.{Draw}
use Rattle.philox.proofs.x8.Machine.{label_by}
use Rattle.philox.proofs.draws.Draws.{waiting_drawn, no_room, groups_drawn}
use Rattle.philox.proofs.draws.draw_many.Goals as goal

pub returns-then-waiting : goal.returns-then-waiting
unfolding drawn
returns-then-waiting c =
    let g = c.args.g in (
      waiting_drawn g c.if-waiting.true _ c.next_u64x8-d.ensures c.put.ensures,
      ap (λ (x : Draw). x.label)
          c.next_u64x8-d.ensures,
    )

pub returns-then-m-eq0 : goal.returns-then-m-eq0
returns-then-m-eq0 c =
    let a = c.args in (
      no_room a.g c.if-waiting.false a.out.now a.at c.room-m.ensures c.if-m-eq0.true,
      sym
          (label_by a.g c.if-waiting.false),
    )

pub returns : goal.returns
returns c =
    let a = c.args in
    let made = groups_drawn a.g c.if-waiting.false a.out.now a.at c.room-m.ensures c.if-m-eq0.false c.put_groups-n.ensures
    c.seek-rng.ensures in
    (made, sym (label_by a.g c.if-waiting.false))
