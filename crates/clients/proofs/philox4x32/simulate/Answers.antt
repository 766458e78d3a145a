use Rattle.philox_fills.specs.declared.fill_words.Fill.{Fill}
use Rattle.clients.proofs.Bytes.{few_made, value_of, number_of_err}
use Rattle.clients.proofs.philox4x32.Calls.{simulated}
use Rattle.clients.specs.Refused.{number_in}
use mathlib.Core.Path.{◌∙◌, ap}
use native.Mathlib.Omega.{arith}
use Rattle.clients.proofs.philox4x32.simulate.Goals as goal

pub overflow_add-result : goal.overflow_add-result
overflow_add-result c =
    let made = ap (λ (x : Fill). x.draws) (c.unwrap_or-made.ensures ∙ value_of c.fill_bytes-written.result _) in
    omega (arith, made, few_made c.fill_bytes-written.ensures.0 c.well_formed.1.1.1.1.1.0.0)

pub returns : goal.returns
returns c =
    let made = c.unwrap_or-made.ensures ∙ value_of c.fill_bytes-written.result _ in
    rw made
    (simulated _ _ _ _ c.ranges.n.fits c.new-start.ensures c.fill_normal_f64-filled.ensures
    c.seek-found.ensures c.fill_bytes-written.ensures (rw made at c.next_u64x8-last.ensures)
    (ap number_in c.err.ensures.value ∙ number_of_err c.fill_bytes-written.result _))
