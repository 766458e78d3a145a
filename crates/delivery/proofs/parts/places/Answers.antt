use Rattle.delivery.proofs.parts.Room.{no_kind, fewer, promised}
use Rattle.delivery.proofs.parts.places.Goals as goal

pub returns-then-is_kind : goal.returns-then-is_kind
returns-then-is_kind c = promised _ _ _ (fewer _ _ _ c.is_kind.ensures c.if-is_kind.true c.width.ensures.0 c.min.ensures)

pub returns : goal.returns
returns c = promised _ _ _ (no_kind _ _ _ c.is_kind.ensures c.if-is_kind.false)
