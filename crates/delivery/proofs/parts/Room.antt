-- How many places a part has: no more than are left or than the buffer has room for, and whole groups or all that are left. Assumes
-- nothing.
use Rattle.std.proofs.Common.{◌≡◌, ℕ, zero, suc, ◌+◌, ◌-◌, ◌*◌, ◌/◌, ◌%◌, ◌<◌, ◌≤◌, min, Bool, true, false, cond, ◌&&◌, leb, length, get_or, sym, refl, ap, ◌∙◌, subst, mul-le-mul_right, mul_assoc, mul_comm, zero-mul, div-mul-le_self, arith, lit≤, leb-false}
use native.Mathlib.Nat.{lt-div-mul-add}
use Rattle.fills.specs.Kinds.{kinds, kind_at, is_kind, of, u64s}
use Rattle.fills.proofs.Sounds.{row}
use Rattle.delivery.specs.parts.Delivery.{width_of, places_of}

width-at : (i : ℕ) → (get_or kinds i (of u64s)).kind.width ≤ 8
width-at zero = lit≤ tt
width-at (suc zero) = lit≤ tt
width-at (suc (suc zero)) = lit≤ tt
width-at (suc (suc (suc zero))) = lit≤ tt
width-at (suc (suc (suc (suc zero)))) = lit≤ tt
width-at (suc (suc (suc (suc (suc zero))))) = lit≤ tt
width-at (suc (suc (suc (suc (suc (suc zero)))))) = lit≤ tt
width-at (suc (suc (suc (suc (suc (suc (suc zero))))))) = lit≤ tt
width-at (suc (suc (suc (suc (suc (suc (suc (suc i)))))))) = lit≤ tt

pub width-most : (k : ℕ) → width_of k ≤ 8
unfolding kind_at
width-most k = width-at (k - 1)

-- 16 places, as often as n bytes have room for them
module _ (n w : ℕ) where
  room_bytes : 16 * (n / (16 * w)) * w ≤ n
  room_bytes =
      let q : ℕ = n / (16 * w) in
      let e : 16 * q * w ≡ q * (16 * w) = ap (λ (x : ℕ). x * w) (mul_comm 16 q) ∙ mul_assoc q 16 w in
      omega (arith, e, div-mul-le_self n (16 * w))

  pub room_fits : 0 < w → 16 * (n / (16 * w)) ≤ n
  room_fits pos =
      let q : ℕ = 16 * (n / (16 * w)) in
      let least : 1 * q ≤ w * q = mul-le-mul_right q pos in
      omega (arith, least, mul_comm w q, room_bytes)

  room_some : 0 < w → 16 * w ≤ n → 0 < n / (16 * w)
  room_some pos h = go (n / (16 * w)) refl
    where
      go : (q : ℕ) → n / (16 * w) ≡ q → 0 < q
      go zero e =
          let b : n < n / (16 * w) * (16 * w) + 16 * w = lt-div-mul-add {a = n} (omega arith) in
          absurd (omega (arith, b, ap (λ (x : ℕ). x * (16 * w)) e, zero-mul (16 * w)))
      go (suc q) e = omega arith

pub record Fits (k left n p : ℕ) : Type 0 where
  pub few : p ≤ left
  pub room : p * width_of k ≤ n
  pub whole : (p ≡ left → ⊥) → p % 16 ≡ 0
  pub some : 1 ≤ k → k ≤ length kinds → 16 * width_of k ≤ n → 0 < left → 0 < p

pub fits : (k left n : ℕ) → Fits k left n (places_of k left n)
unfolding places_of
fits k left n = go (leb 1 k) (leb k (length kinds)) refl refl
  where
    w : ℕ
    w = width_of k

    q : ℕ
    q = n / (16 * w)

    none : ((1 ≤ k) → k ≤ length kinds → ⊥) → Fits k left n 0
    none h = record { few = omega arith; room = omega (arith, zero-mul w); whole = λ x. refl; some = λ a b c d. absurd (h a b) }

    go : (a b : Bool) → leb 1 k ≡ a → leb k (length kinds) ≡ b → Fits k left n (cond (a && b) (min left (16 * q)) 0)
    go true true e f =
        let least : min left (16 * q) * w ≤ 16 * q * w = mul-le-mul_right w (omega arith) in
        record {
          few = omega arith;
          room = omega (arith, least, room_bytes n w);
          whole = λ h. omega arith;
          some = λ a b c d. omega (arith, room_some n w (row k).wide c);
        }
    go true false e f = none (λ a b. omega (arith, leb-false k (length kinds) f))
    go false b e f = none (λ a c. omega (arith, leb-false 1 k e))

-- ---- by the tests that the code makes
module _ (k left n : ℕ) {b : Bool} (e : b ≡ is_kind k) where
  pub no_kind : b ≡ false → places_of k left n ≡ 0
  unfolding places_of
  no_kind z = ap (λ (x : Bool). cond x (min left (16 * (n / (16 * width_of k)))) 0) (sym e ∙ z)

  in_table : b ≡ true → {w : ℕ} → w ≡ width_of k → places_of k left n ≡ min left (16 * (n / (16 * w)))
  unfolding places_of
  in_table z {w} ew =
      ap (λ (x : Bool). cond x (min left (16 * (n / (16 * width_of k)))) 0) (sym e ∙ z)
      ∙ ap (λ (x : ℕ). min left (16 * (n / (16 * x)))) (sym ew)

  pub fewer : b ≡ true → {w p : ℕ} → w ≡ width_of k → p ≡ min left (16 * (n / (16 * w))) → places_of k left n ≡ p
  fewer z ew e = in_table z ew ∙ sym e

module _ (k left n : ℕ) where
  -- what `places` promises
  pub promised : {p : ℕ} → places_of k left n ≡ p → (p ≡ places_of k left n) × (p ≤ left) × (p * width_of k ≤ n)
  promised {p} e = (sym e, subst (λ (x : ℕ). x ≤ left) e (fits k left n).few, subst (λ (x : ℕ). x * width_of k ≤ n) e (fits k left n).room)

-- their bytes by the width
pub bytes_fit : (k n p w : ℕ) → w ≡ width_of k → p * width_of k ≤ n → p * w ≤ n
bytes_fit k n p w e h = subst (λ (x : ℕ). p * x ≤ n) (sym e) h
