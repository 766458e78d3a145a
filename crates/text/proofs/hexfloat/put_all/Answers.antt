use Rattle.text.proofs.hexfloat.Laws.{all_written}
use Rattle.text.proofs.hexfloat.put_all.Goals as goal

pub returns : goal.returns
returns g c = all_written _ _ c.requires c.copy_from_slice.ensures.len c.copy_from_slice.ensures.after
