use Prim.Native.Nat.{ℕ, ◌+◌, ◌*◌}
use Rattle.base.specs.Stored.{stored}
use Rattle.fills.proofs.Buffered.{group-none, group_more, group-end, ahead-one, group-one}
use Rattle.fills.specs.Buffer.{stored_groups}
use mathlib.Core.Path.{ap, ◌∙◌}
use native.Mathlib.Omega.{arith}
use Rattle.elements.proofs.group.map_each.Goals as goal

pub loop-j-init : goal.loop-j-init
loop-j-init g c = group-none

pub loop-j-preserved : goal.loop-j-preserved
loop-j-preserved g c =
    let K = g.K.OfKind.kind c.args.k in
    group_more c.loop-j.invariant c.loop-j-test.true
    (c.put_group.ensures ∙ ap (λ (n : ℕ). stored c.loop-j.out (c.args.at + c.loop-j.j * n) (K.group (λ _. c.draw_of.result))) c.places-w.ensures.are)
    (group-one _ (g.met.K.FromOne.one_draw c.args.k) _ (g.met.K.OfKind.sound c.args.k) (omega (arith, c.groups_of-q.ensures)) c.draw_of.ensures)

pub returns : goal.returns
returns g c =
    let K = g.K.OfKind.kind c.args.k in
    group-end c.loop-j.invariant c.loop-j-test.false
    ∙ ap (stored_groups K c.args.b.now c.args.out.now c.args.at)
    (ahead-one K (g.met.K.FromOne.one_draw c.args.k) _ c.places-w.ensures.are c.groups_of-q.ensures)
