use Prim.Native.Nat.{◌*◌}
use Rattle.fills.proofs.Buffered.{drawn_filled}
use borrow.Author.Rules.{rules}
use mathlib.Core.Path.{refl}
use Rattle.philox_fills.proofs.fill_words.fill_first.Goals as goal

pub returns : goal.returns
returns c =
    let a = c.args in
    (drawn_filled a.b.now (a.m * 8) a.m c.fill_u64.ensures.0 refl (search rules), c.fill_u64.ensures.1)
