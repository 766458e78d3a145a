use Prim.Native.Nat.{ℕ, ◌+◌, ◌-◌, ◌*◌, ◌/◌, ◌<◌, min}
use Rattle.base.specs.Engine.{draw_of}
use Rattle.base.specs.Stored.{stored}
use Rattle.fills.proofs.Buffered.{group-none, group_more}
use Rattle.fills.proofs.Runs.{group-run}
use Rattle.fills.specs.Buffer.{stored_groups}
use Rattle.fills.specs.Fill.{round_up}
use Rattle.normals.proofs.several.Turns.{turn-inside, turn-place, turn-next}
use lib.ListN.{length, drop}
use mathlib.Core.Path.{refl, sym, ap, ◌∙◌}
use native.Mathlib.Nat.{zero-mul}
use native.Mathlib.Omega.{arith}
use Rattle.std.proofs.Common.{rules}
use Rattle.normals.proofs.several.map_several.Goals as goal

pub loop-i-init : goal.loop-i-init
loop-i-init g c = rw (zero-mul (8 / c.draws-n.result)) group-none

pub overflow_add-at : goal.overflow_add-at
overflow_add-at g c =
    let d : ℕ = c.draws-n.result in
    let few = c.most.ensures.are ∙ ap (λ (m : ℕ). 16 / m) (sym c.draws-n.ensures.are) in
    let P = turn-place (length c.args.out.now) c.args.at c.places-w.result d c.loop-i.i c.groups_of-q.result (omega (arith, c.places-w.ensures.some)) c.draws-n.ensures.some c.draws-n.ensures.few
    (c.groups_of-q.ensures ∙ ap (min (round_up (length c.args.out.now - c.args.at) c.places-w.result)) few) c.loop-i-test.true in
    let fits : length c.loop-i.out < 18446744073709551616 = search rules in
    omega (arith, P, fits, c.loop-i.invariant.same)

pub put_several-requires : goal.put_several-requires
put_several-requires g c =
    let d : ℕ = c.draws-n.result in
    let few = c.most.ensures.are ∙ ap (λ (m : ℕ). 16 / m) (sym c.draws-n.ensures.are) in
    let T = turn-inside d c.loop-i.i c.groups_of-q.result c.draws-n.ensures.some c.draws-n.ensures.few (omega (arith, c.groups_of-q.ensures, few)) c.loop-i-test.true in
    let P = turn-place (length c.args.out.now) c.args.at c.places-w.result d c.loop-i.i c.groups_of-q.result (omega (arith, c.places-w.ensures.some)) c.draws-n.ensures.some c.draws-n.ensures.few
    (c.groups_of-q.ensures ∙ ap (min (round_up (length c.args.out.now - c.args.at) c.places-w.result)) few) c.loop-i-test.true in
    (rw (← c.draws-n.ensures.are) T.0, rw (← c.draws-n.ensures.are, ← c.places-w.ensures.are, c.loop-i.invariant.same) P)

pub loop-i-preserved : goal.loop-i-preserved
loop-i-preserved g c =
    let K = g.K.OfKind.kind c.args.k in
    let d : ℕ = c.draws-n.result in
    let few = c.most.ensures.are ∙ ap (λ (m : ℕ). 16 / m) (sym c.draws-n.ensures.are) in
    let T = turn-inside d c.loop-i.i c.groups_of-q.result c.draws-n.ensures.some c.draws-n.ensures.few (omega (arith, c.groups_of-q.ensures, few)) c.loop-i-test.true in
    let j : ℕ = c.loop-i.i * (8 / d) in
    rw (turn-next c.loop-i.i (8 / d))
    (group-run (8 / d) c.loop-i.invariant T.1
    (c.put_several.ensures ∙ λ i. stored_groups K (drop (K.draws * j * 8) c.args.b.now) c.loop-i.out (c.args.at + j * c.places-w.ensures.are i) (8 / sym c.draws-n.ensures.are i)))

pub loop-j-preserved : goal.loop-j-preserved
loop-j-preserved g c =
    let K = g.K.OfKind.kind c.args.k in
    group_more c.loop-j.invariant c.loop-j-test.true
    (c.put_next.ensures ∙ ap (λ (w : ℕ). stored c.loop-j.out (c.args.at + c.loop-j.j * w) (K.group (λ m. draw_of c.args.b.now (K.draws * c.loop-j.j + m)))) c.places-w.ensures.are)
    refl
