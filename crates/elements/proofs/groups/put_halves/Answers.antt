use Rattle.base.proofs.Stored.{stored-out, stored-eights}
use borrow.Author.Rules.{rules}
use mathlib.Core.Path.{refl}
use Rattle.elements.proofs.groups.put_halves.Goals as goal

pub returns-then-out-at : goal.returns-then-out-at
returns-then-out-at g c = stored-out _ _ _ (search rules)

pub returns-then-room-ge16 : goal.returns-then-room-ge16
returns-then-room-ge16 g c = stored-eights _ _ (search rules) c.put.ensures c.put-then-room-ge16.ensures refl refl

pub returns-then-room-le8 : goal.returns-then-room-le8
returns-then-room-le8 g c = stored-eights _ _ (search rules) c.put-2.ensures (stored-out _ _ _ (search rules)) refl refl

pub returns : goal.returns
returns g c = stored-eights _ _ (search rules) c.put-2.ensures c.put-3.ensures refl refl
