use mathlib.Core.Path.{refl, sym, subst}
use Prim.Native.Nat.{◌+◌}
use lib.ListN.{length, set}
use Rattle.base.proofs.Stored.{Putting, put_none, put_more, put_end}
use borrow.Author.Rules.{rules}
use Rattle.slices.proofs.put.put_slice.Goals as goal

pub loop-k-init : goal.loop-k-init
loop-k-init g c = put_none refl c.room-n.ensures

pub loop-k-preserved : goal.loop-k-preserved
loop-k-preserved g c =
    let a = c.args in
    let l = c.loop-k in
    let x = c.index-v-k in
    subst (λ y. Putting (length a.v.now) a.out.now a.at a.v.now c.room-n.result (set l.out (a.at + l.k) y) (l.k + 1)) (sym x.is) (put_more l.invariant (search rules) x.result)

pub returns : goal.returns
returns g c = put_end c.loop-k.invariant c.loop-k-test.false
