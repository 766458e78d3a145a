use Rattle.std.proofs.Common.{ap, ◌∙◌}
use Rattle.math_f64.specs.ln.Parts.{series_start, series_end}
use Rattle.math_f64.specs.declared.ln.Parts.{Parts}
use Rattle.math_f64.proofs.ln.Whole.{whole}
use Rattle.math_f64.proofs.ln.lane.Goals as goal

pub returns : goal.returns
returns c =
    c.series_end.ensures ∙ ap (series_end _ _) c.series_start.ensures
    ∙ ap (λ (p : Parts). series_end p.s p.e (series_start p.s)) c.split-parts.ensures ∙ whole _
