use Rattle.std.proofs.Common.{refl}
use Rattle.xoshiro.specs.powers.Powers.{entry_of}
use Rattle.xoshiro.proofs.powers.entry.Goals as goal

pub returns : goal.returns
unfolding entry_of
returns c = refl
