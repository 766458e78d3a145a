use Rattle.std.proofs.lemmas.Result.{err_from_is_err_and}
use Rattle.delivery.proofs.source.Engines.{filled_1, filled_2}
use Rattle.delivery.proofs.source.fill_bytes.Goals as goal

pub returns-in_err-f-in-Xoshiro : goal.returns-in_err-f-in-Xoshiro
returns-in_err-f-in-Xoshiro c =
    let p = err_from_is_err_and c.from_residual.result c.from_residual.ensures.1 in
    rw (p.1, p.2, c.in-Xoshiro.is) (filled_1 c.in_err-f-in-Xoshiro.ensures)

pub returns-in_err-f-in-Philox : goal.returns-in_err-f-in-Philox
returns-in_err-f-in-Philox c =
    let p = err_from_is_err_and c.from_residual-in_err-f-in-Philox.result c.from_residual-in_err-f-in-Philox.ensures.1 in
    rw (p.1, p.2, c.in-Philox.is) (filled_2 c.in_err-f-in-Philox.ensures.0)

pub returns-in_ok-f-in-Xoshiro : goal.returns-in_ok-f-in-Xoshiro
returns-in_ok-f-in-Xoshiro c = rw c.in-Xoshiro.is (filled_1 c.in_ok-f-in-Xoshiro.ensures)

pub returns-in_ok-f-in-Philox : goal.returns-in_ok-f-in-Philox
returns-in_ok-f-in-Philox c = rw c.in-Philox.is (filled_2 c.in_ok-f-in-Philox.ensures.0)
