use Rattle.std.proofs.Common.{sym, ap, ◌∙◌}
use Rattle.order.specs.Faults.{engine_in, origin_in}
use Rattle.order.proofs.Laws.{passed}
use Rattle.order.proofs.Reading.{reads, no_engine, no_seed, no_block, no_first, begun_at}
use Rattle.order.proofs.origin.Goals as goal

pub returns-in_err-engine : goal.returns-in_err-engine
returns-in_err-engine c =
    ap origin_in (passed _ c.from_residual.ensures.1 c.in_err-engine.ensures.value)
    ∙ no_engine _ _ _ _ (ap engine_in (sym c.in_err-engine.ensures.ok_part) ∙ c.engine_of.ensures)

pub returns-in_err-seed : goal.returns-in_err-seed
returns-in_err-seed c =
    let q = ap engine_in (sym c.in_ok-engine.ensures.ok_part) ∙ c.engine_of.ensures in
    ap origin_in (passed _ c.from_residual-in_err-seed.ensures.1 c.in_err-seed.ensures.value)
    ∙ no_seed _ _ _ _ c.in_ok-engine.engine q (sym c.in_err-seed.ensures.ok_part ∙ c.number.ensures)

pub returns-in_err-block : goal.returns-in_err-block
returns-in_err-block c =
    let q = ap engine_in (sym c.in_ok-engine.ensures.ok_part) ∙ c.engine_of.ensures in
    ap origin_in (passed _ c.from_residual-in_err-block.ensures.1 c.in_err-block.ensures.value)
    ∙ no_block _ _ _ _ c.in_ok-engine.engine q (sym c.in_ok-seed.ensures.ok_part ∙ c.number.ensures)
    (reads _ c.last_block.ensures (sym c.in_err-block.ensures.ok_part ∙ c.number-2.ensures))

pub returns-in_err-first : goal.returns-in_err-first
returns-in_err-first c =
    let q = ap engine_in (sym c.in_ok-engine.ensures.ok_part) ∙ c.engine_of.ensures in
    ap origin_in (passed _ c.from_residual-in_err-first.ensures.1 c.in_err-first.ensures.value)
    ∙ no_first _ _ _ _ c.in_ok-engine.engine q (sym c.in_ok-seed.ensures.ok_part ∙ c.number.ensures)
    (reads _ c.last_block.ensures (sym c.in_ok-block.ensures.ok_part ∙ c.number-2.ensures))
    (reads _ c.last_draw.ensures (sym c.in_err-first.ensures.ok_part ∙ c.number-3.ensures))

pub returns : goal.returns
returns c =
    let q = ap engine_in (sym c.in_ok-engine.ensures.ok_part) ∙ c.engine_of.ensures in
    begun_at _ _ _ _ c.in_ok-engine.engine q (sym c.in_ok-seed.ensures.ok_part ∙ c.number.ensures)
    (reads _ c.last_block.ensures (sym c.in_ok-block.ensures.ok_part ∙ c.number-2.ensures))
    (reads _ c.last_draw.ensures (sym c.in_ok-first.ensures.ok_part ∙ c.number-3.ensures))
