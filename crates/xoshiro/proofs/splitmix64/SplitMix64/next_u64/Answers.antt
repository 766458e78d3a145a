use Rattle.words.specs.Words.{xor_shifted}
use Rattle.xoshiro.specs.splitmix64.SplitMix64.{advanced, mix_step, mixed, drawn}
use Rattle.xoshiro.proofs.splitmix64.SplitMix64.next_u64.Goals as goal

pub returns : goal.returns
unfolding drawn advanced mixed mix_step xor_shifted
returns c = cc
