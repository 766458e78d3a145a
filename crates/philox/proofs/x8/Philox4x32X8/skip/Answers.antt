use Rattle.std.proofs.Common.{ℕ, sym, ap, ◌∙◌}
use Rattle.base.specs.Iterate.{iterate}
use Rattle.philox.specs.x8.Machine.{skipped}
use Rattle.philox.proofs.x8.Skipping.{skipped_waiting, skipped-fresh}
use Rattle.philox.proofs.x8.Philox4x32X8.skip.Goals as goal

pub returns-then-n-eq0 : goal.returns-then-n-eq0
unfolding iterate
returns-then-n-eq0 c = ap (λ (n : ℕ). skipped n c.args.self) (sym c.if-n-eq0.true)

pub returns-then-self : goal.returns-then-self
returns-then-self c =
    c.skip_groups.ensures ∙ skipped_waiting c.args.self c.args.n c.if-self.true c.if-n-eq0.false

pub returns : goal.returns
returns c =
    c.skip_groups-2.ensures ∙ skipped-fresh c.args.self c.args.n c.if-self.false c.if-n-eq0.false
