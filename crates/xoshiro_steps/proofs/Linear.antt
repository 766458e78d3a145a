-- A step is linear over xor, so a jump is linear too, and whatever is linear and commutes with a step commutes with every jump. Assumes nothing.
use mathlib.Core.List.{List}
use mathlib.Core.Path.{◌≡◌, refl, sym, ap, ap₂, ◌∙◌}
use Prim.Native.Nat.{ℕ, zero, suc}
use lib.Bits.{bit_xor, xor_self, xor_zero_r}
use Rattle.base.specs.Iterate.{iterate}
use Rattle.base.proofs.Iterate.{iterate-past}
use Rattle.base.proofs.Quad.{quad_path}
use Rattle.base.proofs.Xor.{xor_assoc, xor_exchange}
use Rattle.words.specs.Words.{shl, rotl}
use Rattle.words.proofs.Words.{shl_xor, rotl_xor}
use Rattle.xoshiro_steps.specs.Xoshiro256pp.{State, step, steps, plus, none, times, summed, jumped, bit_of}

pub plus_none : (a : State) → plus a none ≡ a
unfolding plus none
plus_none a = quad_path (xor_zero_r _) (xor_zero_r _) (xor_zero_r _) (xor_zero_r _)

pub none-plus : (a : State) → plus none a ≡ a
unfolding plus none
none-plus a = refl

pub plus_assoc : (a b c : State) → plus (plus a b) c ≡ plus a (plus b c)
unfolding plus
plus_assoc a b c = quad_path (xor_assoc a.w0 b.w0 c.w0) (xor_assoc a.w1 b.w1 c.w1) (xor_assoc a.w2 b.w2 c.w2) (xor_assoc a.w3 b.w3 c.w3)

pub plus_self : (a : State) → plus a a ≡ none
unfolding plus none
plus_self a = quad_path (xor_self a.w0) (xor_self a.w1) (xor_self a.w2) (xor_self a.w3)

pub plus_exchange : (a b c d : State) → plus (plus a b) (plus c d) ≡ plus (plus a c) (plus b d)
unfolding plus
plus_exchange a b c d =
    quad_path
    (xor_exchange a.w0 b.w0 c.w0 d.w0)
    (xor_exchange a.w1 b.w1 c.w1 d.w1)
    (xor_exchange a.w2 b.w2 c.w2 d.w2)
    (xor_exchange a.w3 b.w3 c.w3 d.w3)

-- ---- a step
pub step-none : step none ≡ none
unfolding step none shl rotl
step-none = refl

pub step-plus : (a b : State) → step (plus a b) ≡ plus (step a) (step b)
unfolding step plus
step-plus a b =
    quad_path
    (ap (bit_xor (bit_xor a.w0 b.w0)) (xor_exchange a.w3 b.w3 a.w1 b.w1) ∙ xor_exchange a.w0 b.w0 _ _)
    (ap (bit_xor (bit_xor a.w1 b.w1)) (xor_exchange a.w2 b.w2 a.w0 b.w0) ∙ xor_exchange a.w1 b.w1 _ _)
    (ap₂ bit_xor (xor_exchange a.w2 b.w2 a.w0 b.w0) (shl_xor 17 a.w1 b.w1) ∙ xor_exchange (bit_xor a.w2 a.w0) (bit_xor b.w2 b.w0) (shl 17 a.w1) (shl 17 b.w1))
    (ap (rotl 45) (xor_exchange a.w3 b.w3 a.w1 b.w1) ∙ rotl_xor 45 _ _)

-- ---- a linear map that commutes with a step commutes with every jump
pub record Linear (f : State → State) : Type 0 where
  pub zeroes : f none ≡ none
  pub adds : (a b : State) → f (plus a b) ≡ plus (f a) (f b)
  pub steps_with : (a : State) → f (step a) ≡ step (f a)

module _ (f : State → State) (l : Linear f) where
  pub linear_times : (b : ℕ) (s : State) → f (times b s) ≡ times b (f s)
  unfolding times
  linear_times zero s = l.zeroes
  linear_times (suc b) s = refl

  linear_summed : (p : List ℕ) (k : ℕ) (s : State) → f (summed p k s) ≡ summed p k (f s)
  unfolding summed
  linear_summed p zero s = l.zeroes
  linear_summed p (suc k) s =
      l.adds _ _ ∙ ap₂ plus (linear_summed p k s) (linear_times (bit_of p k) (steps k s) ∙ ap (times (bit_of p k)) (iterate-past step f l.steps_with k s))

  pub linear_jumped : (p : List ℕ) (s : State) → f (jumped p s) ≡ jumped p (f s)
  unfolding jumped
  linear_jumped p s = linear_summed p 256 s

pub linear_step : Linear step
linear_step = record { zeroes = step-none; adds = step-plus; steps_with = λ a. refl }

-- ---- a jump is linear itself
pub times-plus : (b : ℕ) (x y : State) → times b (plus x y) ≡ plus (times b x) (times b y)
unfolding times
times-plus zero x y = sym (plus_none none)
times-plus (suc b) x y = refl

pub times_none : (b : ℕ) → times b none ≡ none
unfolding times
times_none zero = refl
times_none (suc b) = refl

steps-plus : (n : ℕ) (x y : State) → steps n (plus x y) ≡ plus (steps n x) (steps n y)
unfolding iterate
steps-plus zero x y = refl
steps-plus (suc n) x y = ap step (steps-plus n x y) ∙ step-plus _ _

steps-none : (n : ℕ) → steps n none ≡ none
unfolding iterate
steps-none zero = refl
steps-none (suc n) = ap step (steps-none n) ∙ step-none

summed-plus : (p : List ℕ) (k : ℕ) (x y : State) → summed p k (plus x y) ≡ plus (summed p k x) (summed p k y)
unfolding summed
summed-plus p zero x y = sym (plus_none none)
summed-plus p (suc k) x y =
    ap₂ plus (summed-plus p k x y) (ap (times (bit_of p k)) (steps-plus k x y) ∙ times-plus (bit_of p k) _ _) ∙ plus_exchange _ _ _ _

summed-none : (p : List ℕ) (k : ℕ) → summed p k none ≡ none
unfolding summed
summed-none p zero = refl
summed-none p (suc k) = ap₂ plus (summed-none p k) (ap (times (bit_of p k)) (steps-none k) ∙ times_none (bit_of p k)) ∙ plus_none none

pub jumped_linear : (p : List ℕ) → Linear (jumped p)
unfolding jumped
jumped_linear p =
    record {
      zeroes = summed-none p 256;
      adds = summed-plus p 256;
      steps_with = λ a. sym (linear_jumped step linear_step p a);
    }
