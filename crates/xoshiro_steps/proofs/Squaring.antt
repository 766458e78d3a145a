-- A chain of squarings modulo P, a polynomial that is 0 at the step: if r's value at the step is 2 ^ k steps, and r * r = q * P + t over
-- GF(2), then t's value is 2 ^ (k + 1) steps. The products are those of numbers that hold the coefficients as digits to a large base, and t
-- is the parities of the digits of r * r + q * P. Assumes nothing.
use mathlib.Core.Bool.{Bool, true, false, ◌&&◌}
use mathlib.Core.List.{List, [], ◌∷◌}
use mathlib.Core.Path.{◌≡◌, refl, sym, ap, ap₂, ◌∙◌, subst}
use Prim.Native.Nat.{ℕ, zero, suc, ◌+◌, ◌*◌, ◌/◌, ◌%◌, ◌^◌, ◌≤◌, ◌<◌, zero-le}
use native.Mathlib.Nat.{not-suc-le-zero, mod-lt, mod-mod, zero-lt-suc, le_of_suc-le-suc, le_refl, lt_of_le_of_lt, add-suc, suc-add, mul_comm}
use native.Mathlib.Nat.{mul-one, mul-le-mul, add-le-add, pow-suc, pow-zero, two-mul, div-lt_iff_lt-mul, div-eq_of_lt, zero-mod, zero-div, one-le-pow}
use native.Mathlib.Numerals.{add-one}
use native.Mathlib.Omega.{arith}
use lib.Arith.{digits_div, digits_mod, lt-one}
use lib.Dec.{T, ltb, eqb, ltb→lt, eqb→eq}
use lib.Ieee.Fits.{and_l, and_r}
use lib.ListN.{length, get_or}
use Rattle.base.proofs.Iterate.{iterate_add, iterate-past}
use Rattle.xoshiro_steps.specs.Xoshiro256pp.{State, step, steps, plus, none, times}
use Rattle.xoshiro_steps.proofs.Linear.{plus_none, none-plus}
use Rattle.xoshiro_steps.proofs.Polynomials.{sum, product, value, value_sum, value_product, at_step, at_linear, at_sum, at_product}

-- ---- the parities of the n low digits of N to the base B, without zeros at the end
abbrev front : ℕ → List ℕ → List ℕ
front zero [] = []
front zero (x ∷ l) = zero ∷ x ∷ l
front (suc c) l = suc c ∷ l

abbrev pub parities : ℕ → ℕ → ℕ → List ℕ
parities B zero N = []
parities B (suc n) N = front (N % B % 2) (parities B n (N / B))

front_total : (c : ℕ) (l : List ℕ) → value 1 (front c l) ≡ value 1 l + c
front_total zero [] = refl
front_total zero (x ∷ l) = ap (λ (k : ℕ). k + 0) (mul-one (value 1 l * 1 + x))
front_total (suc c) l = ap (λ (k : ℕ). k + suc c) (mul-one (value 1 l))

pub parities_total : (B n N : ℕ) → value 1 (parities B n N) ≤ n
parities_total B zero N = zero-le
parities_total B (suc n) N =
    let h = parities_total B n (N / B) in
    let k : N % B % 2 < 2 = mod-lt (N % B) (zero-lt-suc 1) in
    rw (front_total (N % B % 2) (parities B n (N / B))) (omega arith)

pub at_front : (c : ℕ) (l : List ℕ) (s : State) → at_step (front c l) s ≡ at_step (c ∷ l) s
unfolding times
at_front zero [] s = sym (none-plus none)
at_front zero (x ∷ l) s = refl
at_front (suc c) l s = refl

-- where a list's total is below B, the parities of the digits of its value at B have its value at the step
module _ (B : ℕ) where
  at_nothing : (l : List ℕ) (s : State) → value 1 l < B → value B l ≡ 0 → at_step l s ≡ none
  unfolding times
  at_nothing [] s h e = refl
  at_nothing (a ∷ l) s h e =
      let t : value 1 l + a < B = rw (← mul-one (value 1 l)) h in
      let q : value B l ≡ 0 = sym (digits_div (value B l) (lt_of_le_of_lt (omega arith) t)) ∙ ap (λ (x : ℕ). x / B) e ∙ div-eq_of_lt (lt_of_le_of_lt zero-le t) in
      let z : a ≡ 0 = omega arith in
      ap₂ plus (ap (λ (c : ℕ). times (c % 2) s) z) (at_nothing l (step s) (omega arith) q) ∙ none-plus none

  rest_lt : (n q a : ℕ) → a < B → q * B + a < B ^ suc n → q < B ^ n
  rest_lt n q a h k =
      subst (λ (x : ℕ). x < B ^ n) (digits_div q h)
      ((div-lt_iff_lt-mul (lt_of_le_of_lt zero-le h)).1 (subst (λ (x : ℕ). q * B + a < x) (pow-suc B n) k))

  at_parities : (n : ℕ) (l : List ℕ) → value 1 l < B → value B l < B ^ n → (s : State) → at_step (parities B n (value B l)) s ≡ at_step l s
  unfolding times
  at_parities zero l h k s = sym (at_nothing l s h (lt-one (subst (λ (x : ℕ). value B l < x) (pow-zero B) k)))
  at_parities (suc n) [] h k s =
      at_front (0 % B % 2) (parities B n (0 / B)) s
      ∙ ap₂ (λ (x y : ℕ). at_step (x % 2 ∷ parities B n y) s) (zero-mod B) (zero-div B)
      ∙ ap (plus none) (at_parities n [] h (one-le-pow n B h) (step s)) ∙ none-plus none
  at_parities (suc n) (a ∷ l) h k s =
      let t : value 1 l + a < B = rw (← mul-one (value 1 l)) h in
      let ha : a < B = omega arith in
      let hl : value 1 l < B = omega arith in
      at_front ((value B l * B + a) % B % 2) (parities B n ((value B l * B + a) / B)) s
      ∙ ap₂ (λ (x y : ℕ). at_step (x % 2 ∷ parities B n y) s) (digits_mod (value B l) ha) (digits_div (value B l) ha)
      ∙ ap₂ plus (ap (λ (x : ℕ). times x s) (mod-mod a 2)) (at_parities n l hl (rest_lt n (value B l) a ha k) (step s))

-- ---- the chain
abbrev same : List ℕ → List ℕ → Bool
same [] [] = true
same [] (y ∷ ys) = false
same (x ∷ xs) [] = false
same (x ∷ xs) (y ∷ ys) = eqb x y && same xs ys

same_equal : (xs ys : List ℕ) → T (same xs ys) → xs ≡ ys
same_equal [] [] t = refl
same_equal [] (y ∷ ys) t = absurd t
same_equal (x ∷ xs) [] t = absurd t
same_equal (x ∷ xs) (y ∷ ys) t = ap₂ ◌∷◌ (eqb→eq x y (and_l (eqb x y) (same xs ys) t)) (same_equal xs ys (and_r (eqb x y) (same xs ys) t))

-- what is computed: each link is a quotient q and the next entry t, numbers of at most n and w bits. M is B ^ n, and R holds P
abbrev linked : ℕ → ℕ → ℕ → ℕ → ℕ → List ℕ → List (ℕ × ℕ) → Bool
linked B n w M R r [] = true
linked B n w M R r ((q, t) ∷ links) =
    let x : ℕ = value B r in
    let N : ℕ = x * x + value B (parities 2 n q) * R in
    ltb N M && same (parities B n N) (parities 2 w t) && linked B n w M R (parities B n N) links

-- shut, so that it is computed once
unfoldable pub Linked : ℕ → ℕ → ℕ → List ℕ → List ℕ → List (ℕ × ℕ) → Type 0
Linked B n w P r links = T (linked B n w (B ^ n) (value B P) r links)

steps_twice : (k : ℕ) (s : State) → steps (2 ^ suc k) s ≡ steps (2 ^ k) (steps (2 ^ k) s)
steps_twice k s = ap (λ (x : ℕ). steps x s) (pow-suc 2 k ∙ mul_comm (2 ^ k) 2 ∙ two-mul (2 ^ k)) ∙ iterate_add step (2 ^ k) (2 ^ k) s

module _ (B n : ℕ) (P : List ℕ) (fits : n * n + n * value 1 P < B) where
  -- r * r + q * P has at the step the value of r * r
  squared : (r q : List ℕ) → value 1 r ≤ n → value 1 q ≤ n → value B r * value B r + value B q * value B P < B ^ n → (s : State) → at_step P s ≡ none
      → at_step (parities B n (value B r * value B r + value B q * value B P)) s ≡ at_step r (at_step r s)
  squared r q hr hq k s z =
      ap (λ (x : ℕ). at_step (parities B n x) s) (sym (at B))
      ∙ at_parities B n both small (subst (λ (x : ℕ). x < B ^ n) (sym (at B)) k) s
      ∙ at_sum (product r r) (product q P) s
      ∙ ap₂ plus (at_product r r s) (at_product q P s ∙ ap (at_step q) z ∙ (at_linear q).zeroes)
      ∙ plus_none (at_step r (at_step r s))
    where
      both : List ℕ
      both = sum (product r r) (product q P)

      at : (x : ℕ) → value x both ≡ value x r * value x r + value x q * value x P
      at x = value_sum x (product r r) (product q P) ∙ ap₂ ◌+◌ (value_product x r r) (value_product x q P)

      small : value 1 both < B
      small = subst (λ (x : ℕ). x < B) (sym (at 1)) (lt_of_le_of_lt (add-le-add (mul-le-mul hr hr) (mul-le-mul hq (le_refl (value 1 P)))) fits)

  module _ (w : ℕ) (s : State) (z : at_step P s ≡ none) where
    chain : (links : List (ℕ × ℕ)) (r : List ℕ) → T (linked B n w (B ^ n) (value B P) r links) → value 1 r ≤ n → (k : ℕ) → at_step r s ≡ steps (2 ^ k) s
        → (j : ℕ) → j < length links → at_step (parities 2 w (get_or links j (0, 0)).1) s ≡ steps (2 ^ (k + suc j)) s
    chain [] r c h k e j l = absurd (not-suc-le-zero l)
    chain ((q, t) ∷ links) r c h k e j l =
        let N : ℕ = value B r * value B r + value B (parities 2 n q) * value B P in
        let less = ltb N (B ^ n) in
        let next = same (parities B n N) (parities 2 w t) in
        let more = linked B n w (B ^ n) (value B P) (parities B n N) links in
        let c1 = and_l (less && next) more c in
        let is : at_step (parities B n N) s ≡ steps (2 ^ suc k) s =
        squared r (parities 2 n q) h (parities_total 2 n q) (ltb→lt N (B ^ n) (and_l less next c1)) s z
        ∙ ap (at_step r) e ∙ iterate-past step (at_step r) (at_linear r).steps_with (2 ^ k) s ∙ ap (steps (2 ^ k)) e ∙ sym (steps_twice k s) in
        go (same_equal (parities B n N) (parities 2 w t) (and_r less next c1)) is (chain links (parities B n N) (and_r (less && next) more c) (parities_total B n N) (suc k) is) j l
      where
        go : {r' : List ℕ} → r' ≡ parities 2 w t → at_step r' s ≡ steps (2 ^ suc k) s
            → ((j : ℕ) → j < length links → at_step (parities 2 w (get_or links j (0, 0)).1) s ≡ steps (2 ^ (suc k + suc j)) s)
            → (j : ℕ) → j < suc (length links) → at_step (parities 2 w (get_or ((q, t) ∷ links) j (0, 0)).1) s ≡ steps (2 ^ (k + suc j)) s
        go e' is rest zero l = ap (λ (x : List ℕ). at_step x s) (sym e') ∙ is ∙ ap (λ (x : ℕ). steps (2 ^ x) s) (sym (add-one k))
        go e' is rest (suc j) l = rest j (le_of_suc-le-suc l) ∙ ap (λ (x : ℕ). steps (2 ^ x) s) (suc-add k (suc j) ∙ sym (add-suc k (suc j)))

    -- entry j of the chain has at the step the value of 2 ^ (k + j + 1) steps
    pub linked_steps : (links : List (ℕ × ℕ)) (r : List ℕ) → Linked B n w P r links → value 1 r ≤ n → (k : ℕ) → at_step r s ≡ steps (2 ^ k) s
        → (j : ℕ) → j < length links → at_step (parities 2 w (get_or links j (0, 0)).1) s ≡ steps (2 ^ (k + suc j)) s
    unfolding Linked
    linked_steps = chain
