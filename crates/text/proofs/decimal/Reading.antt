-- Reading a number step by step: what each byte says of the rest. Assumes nothing.
use Rattle.std.proofs.Common.{Some, None, cond, ◌≡◌, ℕ, ◌+◌, ◌-◌, ◌*◌, ◌/◌, ◌<◌, ◌≤◌, Bool, true, false, ◌&&◌, leb, List, ◌∷◌, length, get_or, drop, sym, refl, ◌∙◌, add-one, arith, drop_of_length-le, drop-cons, eq-eqb, ne_eqb, le-leb, leb-true}
use mathlib.Core.Bool.{false≢true}
use native.Mathlib.Decide.{dec_le}
use borrow.Author.Tests.{lt-leb}
use Rattle.text.specs.decimal.Number.{extends, extended, read, number_on, number_from, number_at}

pub extends_yes : (top v b : ℕ) → 48 ≤ b → b ≤ 57 → v * 10 + (b - 48) ≤ top → extends top v b ≡ true
unfolding extends
extends_yes top v b l h t = simp (le-leb 48 b l, le-leb b 57 h, le-leb _ top t)

pub extends_low : (top v b : ℕ) → b < 48 → extends top v b ≡ false
unfolding extends
extends_low top v b l = simp (lt-leb 48 b l)

pub extends_high : (top v b : ℕ) → 48 ≤ b → 57 < b → extends top v b ≡ false
unfolding extends
extends_high top v b l h = simp (le-leb 48 b l, lt-leb b 57 h)

pub extends-over : (top v b : ℕ) → 48 ≤ b → b ≤ 57 → top < v * 10 + (b - 48) → extends top v b ≡ false
unfolding extends
extends-over top v b l h t = simp (le-leb 48 b l, le-leb b 57 h, lt-leb _ top t)

pub extends_last : (top v b x : ℕ) → x ≡ b - 48 → 48 ≤ b → b ≤ 57 → v ≤ top / 10 → leb x (top - v * 10) ≡ extends top v b
extends_last top v b x e l h t = go (dec_le x (top - v * 10))
  where
    go : Dec (x ≤ top - v * 10) → leb x (top - v * 10) ≡ extends top v b
    go (yes g) = le-leb _ _ g ∙ sym (extends_yes top v b l h (omega arith))
    go (no g) = lt-leb x (top - v * 10) (omega arith) ∙ sym (extends-over top v b l h (omega arith))

pub record Digit (top v b : ℕ) : Type 0 where
  pub low : 48 ≤ b
  pub high : b ≤ 57
  pub within : v * 10 + (b - 48) ≤ top

pub split : (a c : Bool) → (a && c) ≡ true → (a ≡ true) × (c ≡ true)
split true c e = (refl, e)
split false c e = absurd (false≢true e)

pub extends_digit : (top v b : ℕ) → extends top v b ≡ true → Digit top v b
unfolding extends
extends_digit top v b e =
    let p = split (leb 48 b) _ e in
    let q = split (leb b 57) _ p.1 in
    record { low = leb-true 48 b p.0; high = leb-true b 57 q.0; within = leb-true _ top q.1 }

-- ---- the value with a byte behind
pub extended_no : (top v b : ℕ) → extends top v b ≡ false → None ≡ extended top v b
extended_no top v b e = rw e refl

pub extended_is : (top v b d : ℕ) → d ≡ b - 48 → extends top v b ≡ true → Some (v * 10 + d) ≡ extended top v b
extended_is top v b d q e = rw (q, e) refl

pub extended_none : (top v b : ℕ) → extended top v b ≡ None → extends top v b ≡ false
extended_none top v b = go (extends top v b)
  where
    go : (t : Bool) → cond t (Some (v * 10 + (b - 48))) None ≡ None → t ≡ false
    go true e = absurd cc
    go false e = refl

pub extended_some : (top v b x : ℕ) → extended top v b ≡ Some x → (extends top v b ≡ true) × (x ≡ v * 10 + (b - 48))
extended_some top v b x = go (extends top v b)
  where
    go : (t : Bool) → cond t (Some (v * 10 + (b - 48))) None ≡ Some x → (t ≡ true) × (x ≡ v * 10 + (b - 48))
    go true e = (refl, cc)
    go false e = absurd cc

module _ (top stop : ℕ) (s : List ℕ) where
  cons_at : {i : ℕ} → i < length s → drop i s ≡ get_or s i 0 ∷ drop (i + 1) s
  cons_at {i} h = rw add-one (drop-cons s i 0 h)

  pub on_end : (v i : ℕ) → length s ≤ i → number_on top stop v i (drop i s) ≡ None
  unfolding number_on
  on_end v i h = rw (drop_of_length-le s h) refl

  pub on_stop : (v i : ℕ) → i < length s → get_or s i 0 ≡ stop → number_on top stop v i (drop i s) ≡ read v (i + 1)
  unfolding number_on
  on_stop v i h e = rw (cons_at h, eq-eqb _ _ e) refl

  pub on_zero : (v i : ℕ) → i < length s → (get_or s i 0 ≡ stop → ⊥) → v ≡ 0 → number_on top stop v i (drop i s) ≡ None
  unfolding number_on
  on_zero v i h e z = rw (z, cons_at h, ne_eqb _ _ e) refl

  pub on_wrong : (v i : ℕ) → i < length s → (get_or s i 0 ≡ stop → ⊥) → 0 < v → extends top v (get_or s i 0) ≡ false → number_on top stop v i (drop i s) ≡ None
  unfolding number_on
  on_wrong v i h e p x = rw (cons_at h, ne_eqb _ _ e, le-leb 1 v p, x) refl

  pub on_more : (v i w : ℕ) → i < length s → (get_or s i 0 ≡ stop → ⊥) → 0 < v
      → (extends top v (get_or s i 0) ≡ true) × (w ≡ v * 10 + (get_or s i 0 - 48)) → number_on top stop v i (drop i s) ≡ number_on top stop w (i + 1) (drop (i + 1) s)
  unfolding number_on
  on_more v i w h e p x = rw (x.1, cons_at h, ne_eqb _ _ e, le-leb 1 v p, x.0) refl

  pub from_end : (i : ℕ) → length s ≤ i → number_at top stop s i ≡ None
  unfolding number_from
  from_end i h = rw (drop_of_length-le s h) refl

  pub from_wrong : (i : ℕ) → i < length s → extends top 0 (get_or s i 0) ≡ false → number_at top stop s i ≡ None
  unfolding number_from
  from_wrong i h x = rw (cons_at h, x) refl

  pub from_digit : (i w : ℕ) → i < length s → (extends top 0 (get_or s i 0) ≡ true) × (w ≡ 0 * 10 + (get_or s i 0 - 48))
      → number_at top stop s i ≡ number_on top stop w (i + 1) (drop (i + 1) s)
  unfolding number_from
  from_digit i w h x =
      let q : w ≡ get_or s i 0 - 48 = omega (arith, x.1) in
      rw (q, cons_at h, x.0) refl
