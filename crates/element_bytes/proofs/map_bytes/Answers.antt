use Rattle.element_bytes.proofs.Numbers.{mapped_for}
use Rattle.element_bytes.proofs.map_bytes.Goals as goal

pub returns : goal.returns
returns c = mapped_for c.args.kind _ _ _ _ c.kind_of.ensures c.map_groups.ensures
