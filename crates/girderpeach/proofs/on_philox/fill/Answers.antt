use Rattle.base.specs.declared.refusal.Refusal.TheVariants.{OtherWords}
use Rattle.girderpeach.proofs.Engines.{philox_sized, later}
use Rattle.girderpeach.proofs.Host.{none-refused, saved_form, few_made, fill-refused, fill_done}
use Rattle.girderpeach.specs.Philox.{forms}
use Rattle.saved.proofs.fields.Saved.{some_number}
use Rattle.saved.proofs.philox4x32.Form.{load_by}
use Rattle.std.proofs.Common.{w64, sym, ap, ◌∙◌, arith}
use mir.Facts.{to_z_pos}
use Rattle.girderpeach.proofs.on_philox.fill.Goals as goal

pub returns-then-not-is_numbered : goal.returns-then-not-is_numbered
returns-then-not-is_numbered c =
    let l = c.in_ok-rng.ensures in
    let m = load_by _ l c.is_numbered.ensures c.if-not-is_numbered.true in
    fill-refused forms _ c.args.kind c.args.out.now OtherWords (ap (λ x. x.refusal) m ∙ later _ c.args.kind _ l c.in_ok-check.ensures.refusal)

pub returns-in_err-save : goal.returns-in_err-save
returns-in_err-save c =
    let m = load_by _ c.in_ok-rng.ensures c.is_numbered.ensures c.if-not-is_numbered.false in
    absurd (some_number _ (none-refused philox_sized (ap (λ x. x.refusal) m) c.in_err-save.ensures))

pub overflow_cast-result : goal.overflow_cast-result
overflow_cast-result c = let few = few_made c.in_ok-fill.ensures.0 c.well_formed.1.1.0.0 in record { sfits = omega arith }

pub returns : goal.returns
returns c =
    let l = c.in_ok-rng.ensures in
    let m = load_by _ l c.is_numbered.ensures c.if-not-is_numbered.false in
    let z = ap (λ x. x.refusal) m in
    let F = c.in_ok-fill.ensures.0 in
    rw (to_z_pos w64 (few_made F c.well_formed.1.1.0.0))
    (fill_done forms _ _ _ F (sym (z ∙ later _ c.args.kind _ l F.refuses)) (ap (λ x. x.value) m) (saved_form philox_sized z c.in_ok-save.ensures))
