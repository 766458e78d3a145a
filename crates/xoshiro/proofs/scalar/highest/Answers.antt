use Rattle.std.proofs.Common.{◌≡◌, ◌+◌, ◌-◌, ◌*◌, sym, refl, ap, ◌∙◌, arith}
use Rattle.xoshiro_steps.specs.Xoshiro256pp.{highest_below, highest_of}
use Rattle.xoshiro_steps.proofs.Bits.{bit_here, within, word_set, word_clear, highest_zero}
use Rattle.xoshiro.proofs.scalar.highest.Goals as goal

pub loop-i-init : goal.loop-i-init
unfolding highest_of
loop-i-init c = (omega arith, refl)

pub overflow_add-result : goal.overflow_add-result
overflow_add-result c =
    let l = within c.args.poly (c.loop-i.i - 1) c.highest_bit-b.ensures in
    omega arith

pub returns-then-bit-ne0 : goal.returns-then-bit-ne0
returns-then-bit-ne0 c =
    let loop = c.loop-i in
    let p = c.args.poly in
    let b = c.highest_bit-b.ensures in
    let l = within p (loop.i - 1) b in
    let e : 64 * loop.i ≡ 64 * (loop.i - 1) + 64 = omega arith in
    let set = word_set p (loop.i - 1) b (λ z. c.if-bit-ne0.true (c.bit.ensures ∙ bit_here _ _ l ∙ z)) in
    (sym (loop.invariant.1 ∙ ap (highest_below p) e ∙ set), omega arith)

pub loop-i-preserved : goal.loop-i-preserved
loop-i-preserved c =
    let loop = c.loop-i in
    let p = c.args.poly in
    let b = c.highest_bit-b.ensures in
    let l = within p (loop.i - 1) b in
    let e : 64 * loop.i ≡ 64 * (loop.i - 1) + 64 = omega arith in
    let clear = word_clear p (loop.i - 1) b (sym (c.bit.ensures ∙ bit_here _ _ l) ∙ c.if-bit-ne0.false) in
    (omega arith, loop.invariant.1 ∙ ap (highest_below p) e ∙ clear)

pub returns : goal.returns
returns c =
    let loop = c.loop-i in
    let e : 64 * loop.i ≡ 0 = omega arith in
    (sym (loop.invariant.1 ∙ ap (highest_below c.args.poly) e ∙ highest_zero _), omega arith)
