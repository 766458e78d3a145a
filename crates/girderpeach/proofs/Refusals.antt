-- The first refusal that applies, where each can be decided. Assumes nothing.
use mathlib.Core.Bool.{Bool, true, false, true≢false}
use mathlib.Core.List.{List, [], ◌∷◌}
use mathlib.Core.Path.{◌≡◌, refl, sym, ap, ◌∙◌}
use Prim.Native.Nat.{ℕ, zero, suc, ◌<◌}
use native.Mathlib.Decide.{ℕ_discrete}
use native.Mathlib.Omega.{arith}
use lib.IntN.{ℤ, pos, negsuc}
use Rattle.girderpeach.specs.Claims.{Refusal, refusal, minus, Answers}
use Rattle.girderpeach.specs.Host.{answer_of, first_of}

-- ---- decisions
pub not : {C : Type 0} → Dec C → Dec (C → ⊥)
not (yes c) = no (λ h. h c)
not (no h) = yes h

pub stable : {C : Type 0} → Dec C → ((C → ⊥) → ⊥) → C
stable (yes c) h = c
stable (no n) h = absurd (h n)

pub is_true : (b : Bool) → Dec (b ≡ true)
is_true true = yes refl
is_true false = no (λ e. true≢false (sym e))

pub implies : {A B : Type 0} → Dec A → Dec B → Dec (A → B)
implies d (yes b) = yes (λ a. b)
implies (yes a) (no h) = no (λ f. h (f a))
implies (no g) (no h) = yes (λ a. absurd (g a))

pub both : {A B : Type 0} → Dec A → Dec B → Dec (A × B)
both (yes a) (yes b) = yes (a, b)
both (yes a) (no h) = no (λ p. h p.1)
both (no h) d = no (λ p. h p.0)

pub not_true : (b : Bool) → (b ≡ true → ⊥) → b ≡ false
not_true true h = absurd (h refl)
not_true false h = refl

-- some number below n
pub some : {P : ℕ → Type 0} → ((i : ℕ) → Dec (P i)) → (n : ℕ) → Dec ((i : ℕ) × (i < n) × P i)
some d zero = no (λ p. absurd (omega (arith, p.1)))
some {P} d (suc n) = elim (d n) [
  | yes p ↦ yes (n, omega arith, p)
  | no q ↦ elim (some d n) [
    | yes p ↦ yes (p.0, omega (arith, p.1), p.2)
    | no q' ↦ no (λ p. elim (ℕ_discrete p.0 n) [
      | yes e ↦ q (rw e at p.2)
      | no e ↦ q' (p.0, omega (arith, p.1), p.2)
    ])
  ]
]

-- when a refusal applies
abbrev pub when : Refusal → Type 0
when (refusal n C) = C

-- ---- the number of the first refusal that applies, 0 if none does
abbrev pub Decided : List Refusal → Type 0
Decided [] = Unit {0}
Decided (refusal n C ∷ rest) = Dec C × Decided rest

abbrev pub lowest : (rs : List Refusal) → Decided rs → ℕ
lowest [] d = 0
lowest (refusal n C ∷ rest) d = elim d.0 [
  | yes c ↦ n
  | no h ↦ lowest rest d.1
]

-- the numbers rise, from above m on
abbrev pub Rising : ℕ → List Refusal → Type 0
Rising m [] = Unit {0}
Rising m (refusal n C ∷ rest) = (m < n) × Rising n rest

above : (m : ℕ) (rs : List Refusal) (d : Decided rs) → Rising m rs → (lowest rs d ≡ 0 → ⊥) → m < lowest rs d
above m [] d up h = absurd (h refl)
above m (refusal n C ∷ rest) (yes c, d) up h = up.0
above m (refusal n C ∷ rest) (no q, d) up h = let a = above n rest d up.1 h in omega (arith, a, up.0)

-- what an answer tells of the number
number_of : ℤ → ℕ
number_of (pos n) = 0
number_of (negsuc n) = suc n

number_is : (r v : ℕ) → number_of (answer_of r v) ≡ r
unfolding number_of
number_is zero v = refl
number_is (suc r) v = refl

same_number : (r n v : ℕ) → 0 < n → answer_of r v ≡ minus n → r ≡ n
unfolding number_of
same_number r zero v h e = absurd (omega arith)
same_number r (suc n) v h e = sym (number_is r v) ∙ ap number_of e

refused : (r v : ℕ) → 0 < r → answer_of r v ≡ minus r
refused zero v h = absurd (omega arith)
refused (suc r) v h = refl

-- an answer by the number of the first refusal: the numbers rise from above m on
pub answers : (m v : ℕ) (rs : List Refusal) (d : Decided rs) → Rising m rs → {answer : ℤ}
    → answer ≡ answer_of (lowest rs d) v → Answers answer v rs
answers m v [] d up e = e
answers m v (refusal n C ∷ rest) (yes c, d) up e = ((λ q. c, λ q. e ∙ refused n v (omega (arith, up.0))), λ h. absurd (h c))
answers m v (refusal n C ∷ rest) (no h, d) up e = ((λ q. absurd (other (sym e ∙ q)), λ c. absurd (h c)), λ q. answers n v rest d up.1 e)
  where
    other : answer_of (lowest rest d) v ≡ minus n → ⊥
    other q =
        let s = same_number (lowest rest d) n v (omega (arith, up.0)) q in
        let a = above n rest d up.1 (λ z. omega (arith, s, z, up.0)) in
        omega (arith, a, s)

-- two tests of two refusals each, one after the other
pub in_turn : (a b c e : ℕ) {A B C E : Type 0} (d₁ : Dec A) (d₂ : Dec B) (d₃ : Dec C) (d₄ : Dec E)
    → first_of (lowest (refusal (suc a) A ∷ refusal (suc b) B ∷ []) (d₁, (d₂, tt))) (lowest (refusal c C ∷ refusal e E ∷ []) (d₃, (d₄, tt)))
    ≡ lowest (refusal (suc a) A ∷ refusal (suc b) B ∷ refusal c C ∷ refusal e E ∷ []) (d₁, (d₂, (d₃, (d₄, tt))))
in_turn a b c e (yes p) d₂ d₃ d₄ = refl
in_turn a b c e (no p) (yes q) d₃ d₄ = refl
in_turn a b c e (no p) (no q) d₃ d₄ = refl

-- the numbers of a Philox form in a fill: 1 and 2, then the kind's and the length's, then 14
pub fourteen_last : {A B C D E : Type 0} (d : Dec A) (e : Dec B) (h : Dec C) (i : Dec D) (g : Dec E)
    → first_of (lowest (refusal 1 A ∷ refusal 2 B ∷ []) (d, (e, tt)))
    (first_of (lowest (refusal 4 C ∷ refusal 5 D ∷ []) (h, (i, tt))) (lowest (refusal 1 A ∷ refusal 2 B ∷ refusal 14 E ∷ [])
    (d, (e, (g, tt)))))
    ≡ lowest (refusal 1 A ∷ refusal 2 B ∷ refusal 4 C ∷ refusal 5 D ∷ refusal 14 E ∷ []) (d, (e, (h, (i, (g, tt)))))
fourteen_last (yes d) e h i g = refl
fourteen_last (no d) (yes e) h i g = refl
fourteen_last (no d) (no e) (yes h) i g = refl
fourteen_last (no d) (no e) (no h) (yes i) g = refl
fourteen_last (no d) (no e) (no h) (no i) (yes g) = refl
fourteen_last (no d) (no e) (no h) (no i) (no g) = refl
