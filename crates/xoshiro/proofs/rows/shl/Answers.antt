use Rattle.std.proofs.Common.{◌%◌, rules}
use Rattle.words.specs.Words.{shl}
use Rattle.base.proofs.Maps.{mapped_by}
use Rattle.xoshiro.specs.rows.Rows.{shls}
use Rattle.xoshiro.proofs.rows.shl.Goals as goal

pub returns : goal.returns
unfolding shls shl
returns c = mapped_by _ (shl (c.args.k % 64)) 0 c.args.a (λ q x y k. (search rules, search rules)) c.map.ensures.items
