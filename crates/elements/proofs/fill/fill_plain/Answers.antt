use Prim.Native.Nat.{ℕ, ◌*◌}
use Rattle.base.specs.Stored.{stored}
use Rattle.fills.proofs.Draws.{turns_none, one-draw, turns_end}
use Rattle.fills.specs.Fill.{round_up}
use mathlib.Core.Path.{ap, ◌∙◌}
use native.Mathlib.Omega.{arith}
use Rattle.elements.proofs.fill.fill_plain.Goals as goal

pub loop-j-init : goal.loop-j-init
loop-j-init g c = turns_none g.met.E.Engine.eight_words (g.met.K.OfKind.sound c.args.k) (c.groups_in-m.ensures ∙ ap (round_up _) c.places.ensures.are)

pub loop-j-preserved : goal.loop-j-preserved
loop-j-preserved g c =
    let K = g.K.OfKind.kind c.args.k in
    one-draw (g.met.K.FromOne.one_draw c.args.k) c.loop-j.invariant c.loop-j-test.true c.draw-d.ensures.0 c.draw-d.ensures.1
    (c.put_group.ensures ∙ ap (λ (n : ℕ). stored c.loop-j.out (c.loop-j.j * n) (K.group (λ _. c.draw-d.result.words))) c.places-in-loop-j.ensures.are)

pub returns : goal.returns
returns g c = turns_end c.loop-j.invariant c.loop-j-test.false (rw (g.met.K.FromOne.one_draw c.args.k) (omega arith))
