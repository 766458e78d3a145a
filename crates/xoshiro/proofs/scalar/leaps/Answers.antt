use Rattle.std.proofs.Common.{◌≡◌, ℕ, List, length, ap, ◌∙◌, rules}
use Rattle.xoshiro.specs.scalar.Calls.{jumped_by}
use Rattle.xoshiro.specs.declared.scalar.Xoshiro256pp.{Xoshiro256pp}
use Rattle.xoshiro.proofs.scalar.Leaping.{leapt_none, leapt_set, leapt_clear}
use Rattle.xoshiro.proofs.scalar.leaps.Goals as goal
use Rattle.xoshiro.proofs.scalar.leaps.Goals.{then-bit-ne0, else-bit-ne0}

pub loop-j-init : goal.loop-j-init
loop-j-init c =
    let given : length c.args.rng.s ≡ 4 = search rules in
    leapt_none (ap (λ (g : Xoshiro256pp). length g.s) c.known-at.ensures.0 ∙ given)

pub loop-j-preserved : goal.loop-j-preserved
loop-j-preserved c =
    let l = c.loop-j.invariant in
    let h = c.loop-j-test.true in
    let b = c.bit.ensures in
    let words = c.known-at.ensures.1 in
    let at = c.loop-j.at in
    elim c.if-bit-ne0.branch [
      | then-bit-ne0 w ↦
          leapt_set l h words b w.if-bit-ne0.true (w.apply_jump.ensures ∙ ap (λ (p : List ℕ). jumped_by p at) w.entry-poly.ensures) w.at-is
      | else-bit-ne0 w ↦ leapt_clear l h b w.if-bit-ne0.false w.at-is
    ]
