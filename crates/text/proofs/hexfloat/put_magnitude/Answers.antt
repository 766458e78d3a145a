use Rattle.text.proofs.hexfloat.Laws.{is_inf, is_nan, is_zero, is_subnormal, is_normal}
use Rattle.text.proofs.hexfloat.put_magnitude.Goals as goal

pub returns-then-t-eq0 : goal.returns-then-t-eq0
returns-then-t-eq0 c = rw (is_inf _ _ c.if-x-eq2047.true c.if-t-eq0.true) c.put_all.ensures

pub returns-then-x-eq2047 : goal.returns-then-x-eq2047
returns-then-x-eq2047 c = rw (is_nan _ _ c.if-x-eq2047.true c.if-t-eq0.false) c.put_all-then-x-eq2047.ensures

pub returns-then-t-eq0-2 : goal.returns-then-t-eq0-2
returns-then-t-eq0-2 c = rw (is_zero _ _ c.if-x-eq2047.false c.if-x-eq0.true c.if-t-eq0-2.true) c.put_finite.ensures

pub returns-then-x-eq0 : goal.returns-then-x-eq0
returns-then-x-eq0 c = rw (is_subnormal _ _ c.if-x-eq2047.false c.if-x-eq0.true c.if-t-eq0-2.false) c.put_finite-then-x-eq0.ensures

pub returns : goal.returns
returns c = rw (is_normal _ _ c.if-x-eq2047.false c.if-x-eq0.false) c.put_finite-2.ensures
