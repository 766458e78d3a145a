use Rattle.girderpeach.proofs.Engines.{xoshiro_sized}
use Rattle.girderpeach.proofs.Host.{first-none, none-refused, saved_form, few_made, fill_done}
use Rattle.girderpeach.specs.Xoshiro.{forms}
use Rattle.saved.proofs.fields.Saved.{some_number}
use Rattle.std.proofs.Common.{w64, sym, ap, ◌∙◌, arith}
use mir.Facts.{to_z_pos}
use Rattle.girderpeach.proofs.on_xoshiro.fill.Goals as goal

pub returns-in_err-save : goal.returns-in_err-save
returns-in_err-save c =
    absurd (some_number _ (none-refused xoshiro_sized (ap (λ x. x.refusal) c.in_ok-rng.ensures) c.in_err-save.ensures))

pub overflow_cast-result : goal.overflow_cast-result
overflow_cast-result c = let few = few_made c.in_ok-fill.ensures c.well_formed.1.1.0.0 in record { sfits = omega arith }

pub returns : goal.returns
returns c =
    let l = c.in_ok-rng.ensures in
    let z = ap (λ x. x.refusal) l in
    let F = c.in_ok-fill.ensures in
    rw (to_z_pos w64 (few_made F c.well_formed.1.1.0.0))
    (fill_done forms _ _ _ F (first-none _ _ (sym z) ∙ sym F.refuses) (ap (λ x. x.value) l) (saved_form xoshiro_sized z c.in_ok-save.ensures))
