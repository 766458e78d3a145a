use Rattle.std.proofs.Common.{◌%◌, arith}
use Rattle.words.proofs.Words.{rotl-total}
use Rattle.words.proofs.rotl.Goals as goal

pub returns : goal.returns
returns c = rotl-total c.args.x (c.args.k % 64) c.ranges.x.fits (omega arith)
