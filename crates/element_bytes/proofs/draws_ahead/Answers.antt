use Prim.Native.Nat.{◌-◌}
use native.Mathlib.Omega.{arith}
use Rattle.element_bytes.proofs.Ahead.{ahead}
use Rattle.element_bytes.proofs.Numbers.{drawn_for}
use Rattle.element_bytes.proofs.draws_ahead.Goals as goal

-- the bounds follow from the equation
pub returns : goal.returns
returns c =
    let n = c.args.len - c.args.at in
    let e = drawn_for c.args.kind n _ c.kind_of.ensures c.draws.ensures.are c.places.ensures.are c.most.ensures.are c.groups_of.ensures in
    let a = ahead c.args.kind n _ e in
    (e, a.few, a.near, λ h. a.some (omega arith))
