use Prim.Native.Nat.{ℕ, ◌*◌}
use lib.ListN.{length}
use Rattle.base.specs.Stored.{stored}
use Rattle.elements.proofs.Ahead.{few-groups}
use Rattle.fills.proofs.Draws.{turns_none, two-draws, turns_end}
use Rattle.fills.specs.Fill.{round_up}
use mathlib.Core.Path.{ap, ◌∙◌}
use native.Mathlib.Omega.{arith}
use Rattle.elements.proofs.fill.fill_pairs.Goals as goal

pub loop-j-init : goal.loop-j-init
loop-j-init g c = turns_none g.met.E.Engine.eight_words (g.met.K.OfKind.sound c.args.k) (c.groups_in-m.ensures ∙ ap (round_up _) c.places.ensures.are)

pub loop-j-preserved : goal.loop-j-preserved
loop-j-preserved g c =
    let K = g.K.OfKind.kind c.args.k in
    let f = g.K.FromTwo.of_two c.args.k in
    two-draws f (g.met.K.FromTwo.group_of_two c.args.k) (g.met.K.FromTwo.two_draws c.args.k) c.loop-j.invariant c.loop-j-test.true
    c.draw-a.ensures.0 c.draw-a.ensures.1 c.draw-b.ensures.0 c.draw-b.ensures.1
    (c.put_pair.ensures ∙ ap (λ (n : ℕ). stored c.loop-j.out (c.loop-j.j * n) (f c.draw-a.result.words c.draw-b.result.words)) c.places-in-loop-j.ensures.are)

pub overflow_mul-result : goal.overflow_mul-result
overflow_mul-result g c = omega (arith, c.groups_in-m.ensures, few-groups (length c.args.out.now) c.places.result c.places.ensures.some)

pub returns : goal.returns
returns g c = turns_end c.loop-j.invariant c.loop-j-test.false (rw (g.met.K.FromTwo.two_draws c.args.k) (omega arith))
