use Rattle.fills.proofs.Ahead.{more_drawn, finish_part}
use Rattle.fills.proofs.Filling.{start, finish}
use Rattle.fills.proofs.Sounds.{u64s_sound}
use Rattle.philox.proofs.draws.Draws.{drawn-some}
use Rattle.philox.proofs.x8.Theorems.{eight-words}
use borrow.Author.Rules.{rules}
use native.Mathlib.Omega.{arith}
use Rattle.philox_fills.proofs.fill_words.fill_u64.Goals as goal

pub loop-out-init : goal.loop-out-init
loop-out-init c = (search rules, start eight-words u64s_sound)

pub overflow_add-draws : goal.overflow_add-draws
overflow_add-draws c = omega (arith, drawn-some c.draw_many-d.ensures.0 (search rules))

pub overflow_mul-at : goal.overflow_mul-at
overflow_mul-at c = omega (arith, drawn-some c.draw_many-d.ensures.0 (search rules))

pub overflow_add-at : goal.overflow_add-at
overflow_add-at c = omega (arith, drawn-some c.draw_many-d.ensures.0 (search rules))

pub loop-out-smaller : goal.loop-out-smaller
loop-out-smaller c = omega (arith, drawn-some c.draw_many-d.ensures.0 (search rules))

pub loop-out-preserved : goal.loop-out-preserved
loop-out-preserved c =
    let l = c.loop-out in
    let D = c.draw_many-d.ensures.0 in
    let some = drawn-some D (search rules) in
    (omega arith, more_drawn l.invariant.1 D (omega arith))

pub returns-then-out-at : goal.returns-then-out-at
returns-then-out-at c =
    (finish c.loop-out.invariant.1 (search rules), c.label-label.ensures)

pub returns : goal.returns
returns c =
    let l = c.loop-out.invariant in
    (finish_part l.1 l.0 c.fill_u64_plain-rest.ensures, c.label-label.ensures)
