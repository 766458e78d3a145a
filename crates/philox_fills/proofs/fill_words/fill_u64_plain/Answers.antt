use Rattle.base.specs.Iterate.{iterate}
use Rattle.fills.proofs.Filling.{start, more, finish}
use Rattle.fills.proofs.Sounds.{u64s_sound}
use Rattle.philox.proofs.x8.Theorems.{eight-words}
use Rattle.philox.specs.x8.Machine.{drawn}
use Rattle.philox.specs.declared.x8.Draw.{Draw}
use borrow.Author.Rules.{rules}
use mathlib.Core.Path.{ap}
use Rattle.philox_fills.proofs.fill_words.fill_u64_plain.Goals as goal

pub loop-at-init : goal.loop-at-init
loop-at-init c = start eight-words u64s_sound

pub loop-at-preserved : goal.loop-at-preserved
unfolding drawn iterate
loop-at-preserved c =
    more c.loop-at.invariant (search rules) _ (ap (λ (x : Draw). x.words) c.draw-d.ensures) c.put.ensures (ap (λ (x : Draw). x.rng) c.draw-d.ensures)

pub returns : goal.returns
returns c = finish c.loop-at.invariant (search rules)
