use Rattle.std.proofs.Common.{sym, ap, subst}
use Rattle.order.specs.Claims.{Accepted}
use Rattle.order.proofs.Theorems.{orders}
use Rattle.deliver.proofs.main.Goals as goal

-- an order that is read is accepted
pub deliver-requires : goal.deliver-requires
deliver-requires c =
    let e = c.in-Ok.ensures in
    subst Accepted (sym (ap (λ a. a.value) e)) (orders _ _ _ _ _ _ _ _ (sym (ap (λ a. a.refusal) e)))
