use Rattle.std.proofs.Common.{◌≡◌, ◌+◌, ◌*◌, length, refl, ap, ◌∙◌, arith, rules}
use Rattle.base.proofs.Engine.{none-drawn, drawn_more}
use Rattle.base.proofs.Stored.{length-stored}
use Rattle.base.specs.Stored.{stored}
use Rattle.xoshiro.proofs.x8.Theorems.{eight-words}
use Rattle.xoshiro.specs.x8.Calls.{drawn}
use Rattle.xoshiro.specs.declared.x8.Draw.{Draw}
use Rattle.xoshiro.proofs.draws.draw_many.Goals as goal

pub loop-j-init : goal.loop-j-init
loop-j-init c = (search rules, refl, none-drawn refl)

pub loop-j-preserved : goal.loop-j-preserved
unfolding drawn
loop-j-preserved c =
    let P = c.loop-j.invariant in
    let W = ap (λ (x : Draw). x.words) c.next_u64x8-d.ensures in
    let zero-add : c.loop-j.j * 8 ≡ 0 + c.loop-j.j * 8 = omega arith in (
      search rules,
      ap length c.put.ensures ∙ length-stored _ _ _ ∙ P.1,
      drawn_more eight-words P.2 (c.put.ensures ∙ λ i. stored c.loop-j.out (zero-add i) (W i)) (ap (λ (x : Draw). x.rng) c.next_u64x8-d.ensures),
    )
