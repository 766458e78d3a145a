use borrow.Author.Rules.{rules}
use Rattle.normals.proofs.normal_f64s.Four.{halves_bytes}
use Rattle.normals.proofs.normal_f64s.bytes_of_halves.Goals as goal

pub returns : goal.returns
returns c =
    let args = c.args in
    halves_bytes _ _ args.c args.s (search rules) c.bits_f64.ensures c.bits_f64-2.ensures c.put_words.ensures c.put_words-2.ensures
