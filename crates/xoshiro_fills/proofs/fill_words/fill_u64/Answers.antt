use Rattle.fills.proofs.Draws.{turns_none, one-draw, turns_end}
use Rattle.fills.proofs.Sounds.{u64s_sound}
use Rattle.xoshiro.proofs.x8.Theorems.{eight-words}
use Rattle.xoshiro.specs.x8.Calls.{drawn}
use Rattle.xoshiro.specs.declared.x8.Draw.{Draw}
use borrow.Author.Rules.{rules}
use mathlib.Core.Path.{refl, ap}
use Rattle.xoshiro_fills.proofs.fill_words.fill_u64.Goals as goal

pub loop-j-init : goal.loop-j-init
loop-j-init c = turns_none eight-words u64s_sound c.groups_in-m.ensures

pub loop-j-preserved : goal.loop-j-preserved
unfolding drawn
loop-j-preserved c =
    one-draw refl c.loop-j.invariant c.loop-j-test.true (ap (λ (x : Draw). x.words) c.next_u64x8-d.ensures) (ap (λ (x : Draw). x.rng) c.next_u64x8-d.ensures) c.put.ensures

pub returns : goal.returns
returns c = turns_end c.loop-j.invariant c.loop-j-test.false (search rules)
