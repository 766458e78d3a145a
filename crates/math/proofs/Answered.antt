-- What a call answers by the test of its arguments. Assumes nothing.
use mathlib.Core.Bool.{Bool, true, false}
use mathlib.Core.Path.{◌≡◌, sym, ap, ◌∙◌}
use Prim.Native.Nat.{ℕ}
use Rattle.base.specs.Refusal.{Answer}
use Rattle.math.specs.Calls.{answer}

module _ {V : Type 0} (blank : V) {ok : Bool} (n : ℕ) (v : V) where
  pub accepted : {w : V} → ok ≡ true → w ≡ v → ◌≡◌ {A = Answer V} (record { refusal = 0; value = w }) (answer blank ok n v)
  accepted e h = ap (λ (x : V). record { refusal = 0; value = x }) h ∙ ap (λ (t : Bool). answer blank t n v) (sym e)

  pub refused : ok ≡ false → ◌≡◌ {A = Answer V} (record { refusal = n; value = blank }) (answer blank ok n v)
  refused e = ap (λ (t : Bool). answer blank t n v) (sym e)
