-- The claims of specs/xoshiro256pp/Claims.antt. Assumes nothing.
use Rattle.std.proofs.Common.{sym, ap, ◌∙◌}
use Rattle.base.specs.Refusal.{Answer}
use Rattle.xoshiro_steps.specs.Xoshiro256pp.{all_zero}
use Rattle.xoshiro.specs.x8.Lanes.{lane_of}
use Rattle.xoshiro.specs.declared.x8.Xoshiro256ppX8.{Xoshiro256ppX8}
use Rattle.saved.specs.xoshiro256pp.Claims.{FormLength, LoadSaved, SaveLoaded, Refusals}
use Rattle.saved.specs.xoshiro256pp.Form.{form_of}
use Rattle.saved.proofs.xoshiro256pp.Form.{form-length as long, lane_zero_lem, read_saved, saved_read}
use Rattle.saved.proofs.xoshiro256pp.Form.{load_short, load_valid, load-zero, load-accepted}

pub form-length : FormLength
form-length = long

pub load_saved : LoadSaved
load_saved g w h =
    let back = read_saved g w in
    load_valid (form_of g) (long g) (λ i l. sym (lane_zero_lem (form_of g) i l) ∙ ap (λ (x : Xoshiro256ppX8). all_zero (lane_of x i)) back ∙ h i l)
    ∙ ap (λ (x : Xoshiro256ppX8). record { refusal = 0; value = x }) back

pub save-loaded : SaveLoaded
save-loaded s b ok = let a = load-accepted s ok in ap form_of a.holds ∙ saved_read s b a.long

pub refusals : Refusals
refusals s =
    record {
      one = λ q. ap (λ (r : Answer Xoshiro256ppX8). r.refusal) (sym (load_short s q));
      three = λ e i l z. ap (λ (r : Answer Xoshiro256ppX8). r.refusal) (load-zero s e i l z);
      accepted = λ e h. ap (λ (r : Answer Xoshiro256ppX8). r.refusal) (load_valid s e h);
    }
