use Prim.Native.Nat.{ℕ, ◌-◌, ◌*◌, ◌<◌, min}
use lib.ListN.{length}
use mathlib.Core.Path.{◌≡◌}
use Rattle.fills.specs.Buffer.{groups_ahead, stored_groups}
use Rattle.elements.proofs.Ahead.{some-ahead, turns-ahead}
use Rattle.fills.proofs.Draws.{turns_none, turns_end}
use Rattle.fills.specs.Fill.{round_up}
use mathlib.Core.Path.{refl, ap, ◌∙◌}
use native.Mathlib.Omega.{arith}
use Rattle.elements.proofs.fill.fill_ahead.Goals as goal

pub loop-j-init : goal.loop-j-init
loop-j-init g c =
    (refl, turns_none g.met.E.Engine.eight_words (g.met.K.OfKind.sound c.args.k) (c.groups_in-m.ensures ∙ ap (round_up _) c.places.ensures.are))

pub loop-j-smaller : goal.loop-j-smaller
loop-j-smaller g c =
    let some : 0 < c.most.result = rw (c.most.ensures.are, ← c.draws.ensures.are) (some-ahead _ c.draws.ensures.some c.draws.ensures.few) in
    omega (arith, c.min-q.ensures)

pub loop-j-preserved : goal.loop-j-preserved
loop-j-preserved g c =
    let K = g.K.OfKind.kind c.args.k in
    let D = c.fill_buffer-f.ensures in
    let some : 0 < c.most.result = rw (c.most.ensures.are, ← c.draws.ensures.are) (some-ahead _ c.draws.ensures.some c.draws.ensures.few) in
    let at : c.loop-j.j * c.places-in-loop-j.result ≡ c.loop-j.j * K.places = ap (λ (n : ℕ). c.loop-j.j * n) c.places-in-loop-j.ensures.are in (
      c.fill_buffer-f.array_long,
      turns-ahead c.loop-j.invariant.1 c.loop-j-test.true (omega (arith, c.min-q.ensures))
          (c.min-q.ensures ∙ ap (λ (n : ℕ). min (c.groups_in-m.result - c.loop-j.j) n) c.most.ensures.are) c.loop-j.invariant.0 D
          (ap (λ (n : ℕ). min 16 (n * c.min-q.result)) c.draws.ensures.are)
          (c.map_groups.ensures ∙ ap (λ (n : ℕ). stored_groups K c.fill_buffer-f.new.b c.loop-j.out n (groups_ahead K (length c.loop-j.out - n))) at),
    )

pub returns : goal.returns
returns g c = turns_end c.loop-j.invariant.1 c.loop-j-test.false (ap (λ (n : ℕ). n * c.groups_in-m.result) c.draws-2.ensures.are)
