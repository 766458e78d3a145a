use Rattle.std.proofs.Common.{refl, le_refl}
use Rattle.text.proofs.hexfloat.Laws.{room_behind, fraction_few, finite_put}
use Rattle.text.proofs.hexfloat.put_finite.Goals as goal

pub put_power-requires : goal.put_power-requires
put_power-requires c = (c.requires.1, room_behind 6 (fraction_few _) (room_behind 20 (le_refl 3) c.requires.2 c.put_all-m.ensures) c.put_fraction-n.ensures)

pub returns : goal.returns
returns c = finite_put _ _ _ _ refl c.put_all-m.ensures c.put_fraction-n.ensures c.put_power.ensures
