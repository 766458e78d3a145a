use Rattle.base.proofs.Refused.{unless-some}
use Rattle.fills.proofs.Bytes.{accepted-bytes}
use Rattle.philox.proofs.x8.Theorems.{eight-words}
use Rattle.philox_fills.proofs.Refused.{number_some, refused_for}
use Rattle.std.proofs.lemmas.Result.{err_from_is_err_and}
use mathlib.Core.Path.{refl, sym}
use Rattle.philox_fills.proofs.bytes.fill_bytes.Goals as goal

pub returns-in_err-known : goal.returns-in_err-known
returns-in_err-known c =
    let p = err_from_is_err_and c.from_residual.result c.from_residual.ensures.1 in
    let e = c.in_err-known.field-0.0 in
    rw (p.1, p.2) (refused_for e c.in_err-known.ensures.refusal, sym (unless-some _ (number_some e) _ _))

pub returns : goal.returns
returns c =
    let F = accepted-bytes eight-words c.in_ok-known.ensures.refusal refl (rw c.in_ok-known.ensures.number at c.fill_kind.ensures) in
    rw c.labelled.ensures (F, refl)
