use Rattle.std.proofs.Common.{◌≡◌, ◌+◌, ◌*◌, min, length, refl, ap, ◌∙◌, arith, rules}
use Rattle.xoshiro_steps.specs.Xoshiro256pp.{none, bit_of}
use Rattle.xoshiro_steps.proofs.Bits.{bit_here}
use Rattle.xoshiro.proofs.scalar.Jumping.{walk_none, sum_set, sum_clear, walk_more, walk_word, walk_end}
use Rattle.xoshiro.proofs.scalar.apply_jump.Goals as goal
use Rattle.xoshiro.proofs.scalar.apply_jump.Goals.{then-bit-ne0, else-bit-ne0}

pub loop-i-init : goal.loop-i-init
unfolding none
loop-i-init c =
    let long : length c.args.rng.s ≡ 4 = search rules in
    let e : min c.args.top (64 * 0) ≡ 0 = omega arith in
    (omega arith, rw e (walk_none refl long))

pub loop-b-init : goal.loop-b-init
loop-b-init c =
    let w = c.loop-i.invariant.1 in
    (omega arith, walk_none (ap length w.sums) (ap length w.walks))

pub loop-b-preserved : goal.loop-b-preserved
loop-b-preserved c =
    let w = c.loop-b.invariant.1 in
    let room = c.room-below.ensures in
    let b = c.bit.ensures ∙ bit_here _ _ (omega arith) in
    elim c.if-bit-ne0.branch [
      | then-bit-ne0 v ↦
          (omega arith, walk_more w (sum_set w b v.if-bit-ne0.true (v.acc-is ∙ v.xored-sum.ensures)) c.stepped-next.ensures)
      | else-bit-ne0 v ↦ (omega arith, walk_more w (sum_clear w b v.if-bit-ne0.false v.acc-is) c.stepped-next.ensures)
    ]

pub loop-i-preserved : goal.loop-i-preserved
loop-i-preserved c =
    let inner = c.loop-b in
    let room = c.room-below.ensures in
    let outer = c.loop-i in
    let top = c.args.top in
    let whole : min top (64 * outer.i) ≡ 64 * outer.i = omega arith in
    let more : min top (64 * (outer.i + 1)) ≡ 64 * outer.i + inner.b = omega arith in
    (omega arith, rw more (walk_word _ _ (omega arith) (rw whole at outer.invariant.1) inner.invariant.1))

pub returns-then-bit-ne0-2 : goal.returns-then-bit-ne0-2
unfolding bit_of
returns-then-bit-ne0-2 c =
    let loop = c.loop-i in
    let e : min c.args.top (64 * loop.i) ≡ c.args.top = omega arith in
    let w = rw e at loop.invariant.1 in
    let sum = sum_set w c.bit-2.ensures c.if-bit-ne0-2.true c.xored-all.ensures in
    walk_end c.args.rng c.requires.0 w sum

pub returns-else-bit-ne0-2 : goal.returns-else-bit-ne0-2
unfolding bit_of
returns-else-bit-ne0-2 c =
    let loop = c.loop-i in
    let e : min c.args.top (64 * loop.i) ≡ c.args.top = omega arith in
    let w = rw e at loop.invariant.1 in
    walk_end c.args.rng c.requires.0 w (sum_clear w c.bit-2.ensures c.if-bit-ne0-2.false refl)
