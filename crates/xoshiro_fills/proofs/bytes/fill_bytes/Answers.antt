use Rattle.fills.proofs.Bytes.{accepted-bytes}
use Rattle.std.proofs.lemmas.Result.{err_from_is_err_and}
use Rattle.xoshiro.proofs.x8.Theorems.{eight-words}
use Rattle.xoshiro_fills.proofs.Refused.{refused_for}
use mathlib.Core.Path.{refl}
use Rattle.xoshiro_fills.proofs.bytes.fill_bytes.Goals as goal

pub returns-in_err-known : goal.returns-in_err-known
returns-in_err-known c =
    let p = err_from_is_err_and c.from_residual.result c.from_residual.ensures.1 in
    rw (p.1, p.2) (refused_for c.in_err-known.field-0.0 c.in_err-known.ensures.refusal)

pub returns : goal.returns
returns c = accepted-bytes eight-words c.in_ok-known.ensures.refusal refl (rw c.in_ok-known.ensures.number at c.fill_kind.ensures)
