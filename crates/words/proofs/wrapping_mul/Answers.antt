use Rattle.words.proofs.Words.{mul_words}
use Rattle.words.proofs.wrapping_mul.Goals as goal

pub returns : goal.returns
returns c = mul_words c.args.a c.args.b
