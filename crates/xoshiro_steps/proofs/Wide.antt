-- The value of a polynomial at the step, computed on numbers that hold a state's words as digits to a large base. Assumes nothing.
use mathlib.Core.Bool.{Bool, ◌&&◌}
use mathlib.Core.List.{List, [], ◌∷◌}
use mathlib.Core.Path.{◌≡◌, sym, ap, ◌∙◌}
use Prim.Native.Nat.{ℕ, zero, suc, ◌+◌, ◌*◌, ◌%◌, ◌^◌, ◌≤◌, ◌<◌}
use native.Mathlib.Nat.{le-mul_of_pos_right, le_trans, one-le-pow, zero-lt-suc, mul-one, mul_assoc, mul_comm, pow-suc}
use native.Mathlib.Omega.{arith}
use lib.Dec.{T, eqb}
use Rattle.base.proofs.Quad.{quad_path}
use Rattle.xoshiro_steps.specs.Xoshiro256pp.{State, step, plus, none, times}
use Rattle.xoshiro_steps.proofs.Linear.{plus_none, plus_assoc}
use Rattle.xoshiro_steps.proofs.Nonzero.{four_pass}
use Rattle.xoshiro_steps.proofs.Digits.{Holds, holds_le, holds_zero, holds_xor, rotated, holds_rotl, shifted, holds_shl}
use Rattle.xoshiro_steps.proofs.Digits.{lowered, holds_lowered, holds_nothing}
use Rattle.xoshiro_steps.proofs.Polynomials.{at_step}

-- ---- what is computed
abbrev pub zeros : State
zeros = record { w0 = 0; w1 = 0; w2 = 0; w3 = 0 }

-- a sum, and X added to it where n is not 0
abbrev wide_added : ℕ → State → State → State
wide_added zero X sum = sum
wide_added (suc n) X sum = record { w0 = sum.w0 + X.w0; w1 = sum.w1 + X.w1; w2 = sum.w2 + X.w2; w3 = sum.w3 + X.w3 }

module _ (B : ℕ) where
  abbrev wide_step : State → State
  wide_step X =
      record {
        w0 = X.w0 + (X.w3 + X.w1);
        w1 = X.w1 + (X.w2 + X.w0);
        w2 = X.w2 + X.w0 + shifted B X.w1;
        w3 = rotated B (X.w3 + X.w1);
      }

  abbrev wide_lowered : State → State
  wide_lowered X = record { w0 = lowered B X.w0; w1 = lowered B X.w1; w2 = lowered B X.w2; w3 = lowered B X.w3 }

  -- a step for each coefficient, the state added where it is odd; after n of them, and then after each K + 1, the digits are made 0 or 1
  abbrev pub wide_sum : ℕ → ℕ → List ℕ → State → State → State
  wide_sum K n [] X sum = sum
  wide_sum K (suc n) (c ∷ p) X sum = wide_sum K n p (wide_step X) (wide_added (c % 2) X sum)
  wide_sum K zero (c ∷ p) X sum = wide_sum K K p (wide_step (wide_lowered X)) (wide_added (c % 2) (wide_lowered X) (wide_lowered sum))

  -- every digit is even
  abbrev pub all_even : State → Bool
  all_even X = eqb (lowered B X.w0) 0 && eqb (lowered B X.w1) 0 && eqb (lowered B X.w2) 0 && eqb (lowered B X.w3) 0

  -- ---- what it says: X holds the state s
  pub record Held (m : ℕ) (X s : State) : Type 0 where
    pub w0 : Holds B m X.w0 s.w0
    pub w1 : Holds B m X.w1 s.w1
    pub w2 : Holds B m X.w2 s.w2
    pub w3 : Holds B m X.w3 s.w3

  pub held_zeros : Held 0 zeros none
  unfolding none
  held_zeros = record { w0 = holds_zero B; w1 = holds_zero B; w2 = holds_zero B; w3 = holds_zero B }

  pub held_le : {m k : ℕ} {X s : State} → m ≤ k → Held m X s → Held k X s
  held_le l h = record { w0 = holds_le B l h.w0; w1 = holds_le B l h.w1; w2 = holds_le B l h.w2; w3 = holds_le B l h.w3 }

  held_added : {m : ℕ} (n : ℕ) {X Y s t : State} → Held m X s → Held m Y t → Held (m * 4) (wide_added n X Y) (plus t (times n s))
  unfolding plus times
  held_added zero {t = t} h k = rw (plus_none t) (held_le (omega arith) k)
  held_added (suc n) h k =
      held_le (omega arith)
      (record { w0 = holds_xor B k.w0 h.w0; w1 = holds_xor B k.w1 h.w1; w2 = holds_xor B k.w2 h.w2; w3 = holds_xor B k.w3 h.w3 })

  held_step : {m : ℕ} {X s : State} → m * 4 < B → Held m X s → Held (m * 4) (wide_step X) (step s)
  unfolding step
  held_step {m} room h =
      let s2 = holds_xor B h.w2 h.w0 in
      let s3 = holds_xor B h.w3 h.w1 in
      record {
        w0 = holds_le B (omega arith) (holds_xor B h.w0 s3);
        w1 = holds_le B (omega arith) (holds_xor B h.w1 s2);
        w2 = holds_le B (omega arith) (holds_xor B s2 (holds_shl B (omega arith) h.w1));
        w3 = holds_le B (omega arith) (holds_rotl B (omega arith) s3);
      }

  held_lowered : {m : ℕ} {X s : State} → m < B → Held m X s → Held 64 (wide_lowered X) s
  held_lowered room h =
      record { w0 = holds_lowered B room h.w0; w1 = holds_lowered B room h.w1; w2 = holds_lowered B room h.w2; w3 = holds_lowered B room h.w3 }

  -- a turn makes the digits at most four times as large, and they stay below B
  module _ (K M : ℕ) (turns : 64 * 4 ^ suc K ≤ M) (room : M < B) where
    turn : (m n : ℕ) → m * 4 ^ suc n ≤ M → (m * 4 * 4 ^ n ≤ M) × (m * 4 < B)
    turn m n h =
        let e : m * 4 ^ suc n ≡ m * 4 * 4 ^ n = ap (λ (x : ℕ). m * x) (pow-suc 4 n ∙ mul_comm (4 ^ n) 4) ∙ sym (mul_assoc m 4 (4 ^ n)) in
        let l : m * 4 ≤ m * 4 * 4 ^ n = le-mul_of_pos_right (m * 4) (one-le-pow n 4 (zero-lt-suc 3)) in
        (omega arith, omega arith)

    pub held_sum : (n : ℕ) (p : List ℕ) {m : ℕ} {X Y s t : State} → m * 4 ^ n ≤ M → Held m X s → Held m Y t
        → Held M (wide_sum K n p X Y) (plus t (at_step p s))
    held_sum n [] {m} {t = t} h x y =
        rw (plus_none t) (held_le (le_trans (le-mul_of_pos_right m (one-le-pow n 4 (zero-lt-suc 3))) h) y)
    held_sum (suc n) (c ∷ p) {m} {s = s} {t} h x y =
        let r = turn m n h in
        rw (← plus_assoc t (times (c % 2) s) (at_step p (step s))) (held_sum n p r.0 (held_step r.1 x) (held_added (c % 2) x y))
    held_sum zero (c ∷ p) {m} {s = s} {t} h x y =
        let r = turn 64 K turns in
        let small : m < B = omega (arith, mul-one m) in
        let x' = held_lowered small x in
        rw (← plus_assoc t (times (c % 2) s) (at_step p (step s))) (held_sum K p r.0 (held_step r.1 x') (held_added (c % 2) x' (held_lowered small y)))

  pub held_even : {m : ℕ} {X s : State} → m < B → Held m X s → T (all_even X) → s ≡ none
  unfolding none
  held_even {m} {X} room h t =
      let e = four_pass (eqb (lowered B X.w0) 0) (eqb (lowered B X.w1) 0) (eqb (lowered B X.w2) 0) (eqb (lowered B X.w3) 0) t in
      quad_path (holds_nothing B room h.w0 e.0) (holds_nothing B room h.w1 e.1) (holds_nothing B room h.w2 e.2) (holds_nothing B room h.w3 e.3)
