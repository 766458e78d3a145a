use Rattle.std.proofs.Common.{◌%◌, rules}
use Rattle.words.specs.Words.{rotl}
use Rattle.base.proofs.Maps.{mapped_by}
use Rattle.xoshiro.specs.rows.Rows.{rotls}
use Rattle.xoshiro.proofs.rows.rotl.Goals as goal

pub returns : goal.returns
unfolding rotls
returns c = mapped_by _ (rotl (c.args.k % 64)) 0 c.args.a (λ q x y k. (search rules, search rules)) c.map.ensures.items
