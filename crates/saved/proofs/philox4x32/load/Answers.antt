use Rattle.std.proofs.lemmas.Result.{err_from_is_err_and}
use Rattle.saved.proofs.philox4x32.Form.{load_by, refused_as}
use Rattle.saved.proofs.philox4x32.load.Goals as goal

pub returns-in_err-rng : goal.returns-in_err-rng
returns-in_err-rng c =
    let p = err_from_is_err_and c.from_residual.result c.from_residual.ensures.1 in
    rw (p.1, p.2) (refused_as _ _ c.in_err-rng.ensures)

pub returns-then-not-is_numbered : goal.returns-then-not-is_numbered
returns-then-not-is_numbered c = load_by _ c.in_ok-rng.ensures c.is_numbered.ensures c.if-not-is_numbered.true

pub returns : goal.returns
returns c = load_by _ c.in_ok-rng.ensures c.is_numbered.ensures c.if-not-is_numbered.false
