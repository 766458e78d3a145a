-- The claim of specs/Accepted.antt. Assumes nothing.
use Rattle.std.proofs.Common.{◌≡◌, ℕ, suc, Bool, true, false, ◌&&◌, T, List, refl, arith}
use lib.Ieee.{Float, Format, nan}
use lib.Ieee.Fits.{and_i, and_l, and_r}
use Rattle.base.specs.Every.{every}
use Rattle.base.proofs.Every.{every_each, each_every}
use Rattle.floats.specs.patterns.Domains.{positive_normal, in_reach, has_root, is_u1, is_u2}
use Rattle.math.specs.Calls.{answer, ln_call, sincos_turns_call, sqrt_call, box_muller_call}
use Rattle.math.specs.Accepted.{EachLane, Iff, Accepts}

-- an answer's number is 0 exactly when its test passed
passed : {V : Type 0} (blank : V) (ok : Bool) (n : ℕ) (v : V) → Iff ((answer blank ok (suc n) v).refusal ≡ 0) (T ok)
passed blank true n v = (λ e. tt, λ h. refl)
passed blank false n v = (λ (e : suc n ≡ 0). absurd (omega arith), λ (h : ⊥). absurd h)

each : {P : Type 0} (p : Float → Bool) (x : List Float) → Iff P (T (every p x)) → Iff P (EachLane p x)
each p x e = (λ h. every_each p nan x (e.0 h), λ k. e.1 (each_every p nan x k))

pub accepts : (f : Format) → Accepts f
unfolding ln_call sincos_turns_call sqrt_call box_muller_call
accepts f =
    record {
      ln = λ x. each (positive_normal f) x (passed _ (every (positive_normal f) x) 6 _);
      sincos_turns = λ t. each (in_reach f) t (passed _ (every (in_reach f) t) 7 _);
      sqrt = λ x. each (has_root f) x (passed _ (every (has_root f) x) 8 _);
      box_muller =
          λ u1 u2.
          let a = every (is_u1 f) u1 in
          let b = every is_u2 u2 in
          let e = passed _ (a && b) 9 _ in (
            λ h. (every_each (is_u1 f) nan u1 (and_l a b (e.0 h)), every_each is_u2 nan u2 (and_r a b (e.0 h))),
            λ k. e.1 (and_i a b (each_every (is_u1 f) nan u1 k.0) (each_every is_u2 nan u2 k.1)),
          );
    }
