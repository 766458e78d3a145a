use Rattle.std.proofs.Common.{sym, ◌∙◌}
use Rattle.math.proofs.Answered.{accepted, refused}
use Rattle.math.proofs.calls.sincos_turns.Goals as goal

pub returns-then-not-all_in_reach : goal.returns-then-not-all_in_reach
returns-then-not-all_in_reach g c = λ blank. refused blank _ _ (sym c.all_in_reach.ensures ∙ c.if-not-all_in_reach.true)

pub returns : goal.returns
returns g c =
    let t = c.sincos_turns in
    λ blank. accepted blank _ _ (sym c.all_in_reach.ensures ∙ c.if-not-all_in_reach.false) (λ i. record { cos = t.ensures.cosines i; sin = t.ensures.sines i })
