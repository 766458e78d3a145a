use Rattle.std.proofs.Common.{lit≤}
use Rattle.base.specs.Table.{table}
use Rattle.xoshiro_steps.proofs.Distance.{is_power, agree}
use Rattle.xoshiro.specs.powers.Powers.{entry_of}
use Rattle.xoshiro.proofs.powers.Powers.{powers_by}
use Rattle.xoshiro.proofs.powers.jumps.Goals as goal

pub returns : goal.returns
unfolding is_power agree table entry_of
returns c = powers_by 128 (lit≤ tt) _ tt
