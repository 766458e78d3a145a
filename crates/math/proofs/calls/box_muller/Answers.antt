use Rattle.std.proofs.Common.{◌&&◌, sym, ◌∙◌}
use Rattle.math.proofs.Answered.{accepted, refused}
use Rattle.math.proofs.calls.box_muller.Goals as goal

pub returns-then-not-all_u1-all_u2 : goal.returns-then-not-all_u1-all_u2
returns-then-not-all_u1-all_u2 g c = λ blank. refused blank _ _ (sym (λ i. c.all_u1.ensures i && c.all_u2.ensures i) ∙ c.if-not-all_u1-all_u2.true)

pub returns : goal.returns
returns g c =
    let h = c.box_muller in
    λ blank.
    accepted blank _ _ (sym (λ i. c.all_u1.ensures i && c.all_u2.ensures i) ∙ c.if-not-all_u1-all_u2.false)
    (λ i. record { cos = h.ensures.cosines i; sin = h.ensures.sines i })
