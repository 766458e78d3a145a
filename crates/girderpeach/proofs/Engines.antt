-- The forms of both engines: which numbers refuse them, and that an accepted form has its length; and the refusals of a fill of a Philox
-- form. Assumes nothing.
use mathlib.Core.List.{List}
use mathlib.Core.Path.{◌≡◌, sym, ap, ◌∙◌}
use Prim.Native.Nat.{ℕ}
use lib.ListN.{length}
use Rattle.base.specs.Refusal.{Answer}
use Rattle.fills.specs.FillBytes.{refusal_of}
use Rattle.philox.specs.declared.x8.Philox4x32X8.{Philox4x32X8}
use Rattle.saved.specs.philox4x32.Form as philox-form
use Rattle.saved.specs.philox4x32.Form.{refused, parsed, is_numbered}
use Rattle.saved.proofs.philox4x32.Form.{load-accepted}
use Rattle.saved.proofs.xoshiro256pp.Form.{load-accepted as xoshiro-accepted}
use Rattle.girderpeach.specs.Host.{fill_refusal}
use Rattle.girderpeach.specs.Philox as philox
use Rattle.girderpeach.specs.Xoshiro as xoshiro
use Rattle.girderpeach.proofs.Host.{first-none, length_yes, Sized}

pub xoshiro_sized : Sized xoshiro.forms 256
xoshiro_sized = record { sized = λ s e. length_yes s (xoshiro-accepted s e).long }

pub philox_sized : Sized philox.forms 104
philox_sized = record { sized = λ s e. length_yes s (load-accepted s e).long }

-- ---- a fill of a Philox form that was parsed, whose kind and length aren't refused: what is still refused is refused by load
pub later : (form : List ℕ) (k : ℕ) (out : List ℕ) {rng : Philox4x32X8} → record { refusal = 0; value = rng } ≡ parsed form
    → 0 ≡ refusal_of k (length out) → (philox-form.loaded form).refusal ≡ fill_refusal philox.forms form k out
later form k out l q = sym (first-none _ _ (sym (ap (λ (r : Answer Philox4x32X8). r.refusal) l)) ∙ first-none _ _ (sym q))
