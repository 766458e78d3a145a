-- Digits written from the last to the first, and numbers written so, in one part and in two. Assumes nothing.
use Rattle.std.proofs.Common.{◌≡◌, ℕ, zero, suc, ◌+◌, ◌-◌, ◌*◌, ◌/◌, ◌%◌, ◌^◌, ◌<◌, ◌≤◌, Bool, true, false, ◌&&◌, leb, List, [], ◌∷◌, ◌++◌, length, set, sym, refl, ap, ◌∙◌, subst, append_assoc, append-nil, div-add-mod', arith, length-append, le-ltb, lt-ltb, le-leb}
use lib.Seq.{sets, set_comm}
use Rattle.base.proofs.Put.{put_length, put_then, given_yes, given_no}
use Rattle.base.specs.Put.{Put, given}
use Rattle.base.specs.Stored.{stored}
use Rattle.text.specs.decimal.Decimal.{decimal, last_digits, padded}
use Rattle.text.specs.declared.decimal.Long.{Long}
use Rattle.text.specs.decimal.Long.{value_of, long_of, fitting}
use Rattle.text.proofs.decimal.Decimal.{length_last, length-padded, decimal-padded, decimal_split}

-- ---- bytes written from the last to the first
front : {j at : ℕ} (l v : List ℕ) (b : ℕ) → j < at → set (sets l at v) j b ≡ sets (set l j b) at v
front l [] b h = refl
front {j} {at} l (x ∷ v) b h = front (set l at x) v b (omega arith) ∙ ap (λ (m : List ℕ). sets m (suc at) v) (set_comm l at j x b (omega arith))

-- the last digits of v are written, and j of k are left: those of w
pub record Backward (base : ℕ) (digit : ℕ → ℕ) (v k at : ℕ) (l : List ℕ) (w j : ℕ) (out : List ℕ) : Type 0 where
  pub upto : j ≤ k
  pub done : List ℕ
  pub text : last_digits base digit j w ++ done ≡ last_digits base digit k v
  pub made : out ≡ stored l (at + j) done

module _ {base : ℕ} {digit : ℕ → ℕ} {v k at : ℕ} {l : List ℕ} where
  pub back_none : Backward base digit v k at l v k l
  unfolding stored
  back_none = record { upto = omega arith; done = []; text = append-nil (last_digits base digit k v); made = refl }

  pub back_one : {w j : ℕ} {out : List ℕ} → Backward base digit v k at l w (suc j) out → Backward base digit v k at l (w / base) j (set out (at + j) (digit (w % base)))
  unfolding stored last_digits
  back_one {w} {j} {out} B =
      let d : ℕ = digit (w % base) in
      let p : at + suc j ≡ suc (at + j) = omega arith in
      record {
        upto = omega (arith, B.upto);
        done = d ∷ B.done;
        text = sym (append_assoc (last_digits base digit j (w / base)) (d ∷ []) B.done) ∙ B.text;
        made = ap (λ (m : List ℕ). set m (at + j) d) (B.made ∙ ap (λ (n : ℕ). sets l n B.done) p) ∙ front l B.done d (omega arith);
      }

  pub back_end : {w j r : ℕ} {out : List ℕ} → Backward base digit v k at l w j out → j ≡ 0 → r ≡ at + k → Put (last_digits base digit k v) at l out r
  unfolding last_digits
  back_end {w} {j} {r} {out} B z e =
      let d : B.done ≡ last_digits base digit k v = ap (λ (i : ℕ). last_digits base digit i w ++ B.done) (sym z) ∙ B.text in
      let n : at + j ≡ at = omega arith in
      record {
        next = e ∙ ap (λ (i : ℕ). at + i) (sym (length_last base digit k v));
        made = B.made ∙ ap (λ (i : ℕ). stored l i B.done) n ∙ ap (stored l at) d;
      }

-- two decimal digits to a turn, and perhaps one at the end
abbrev pub Backward10 : (v k at : ℕ) (l : List ℕ) (w j : ℕ) (out : List ℕ) → Type 0
Backward10 = Backward 10 (λ d. 48 + d)

module _ {v k at : ℕ} {l : List ℕ} where
  pub back_upto : {w j k' : ℕ} {out : List ℕ} → j ≡ k' → Backward10 v k at l w j out → Backward10 v k at l w k' out
  back_upto {w} {j} {k'} {out} e B = subst (λ (n : ℕ). Backward10 v k at l w n out) e B

  -- the pair of digits behind i pairs and an odd digit, or none
  pub back_pair : {w a b : ℕ} {out : List ℕ} (odd i : ℕ) → Backward10 v k at l w (odd + 2 * i) out → 0 < i → a ≡ 48 + w % 100 % 10
      → b ≡ 48 + w % 100 / 10
      → Backward10 v k at l (w / 100) (odd + 2 * (i - 1)) (set (set out (at + odd + 2 * (i - 1) + 1) a) (at + odd + 2 * (i - 1)) b)
  back_pair odd zero B h ea eb = absurd (omega arith)
  back_pair {w} {a} {b} {out} odd (suc i) B h ea eb =
      let j : ℕ = odd + 2 * i in
      let n : suc i - 1 ≡ i = omega arith in
      let m : odd + 2 * suc i ≡ suc (suc j) = omega arith in
      let q : w / 100 ≡ w / 10 / 10 = omega arith in
      let x : a ≡ 48 + w % 10 = omega arith in
      let y : b ≡ 48 + w / 10 % 10 = omega arith in
      let s : at + odd + 2 * i + 1 ≡ at + suc j = omega arith in
      let t : at + odd + 2 * i ≡ at + j = omega arith in
      rw (n, q, x, y, s, t) (back_one (back_one (back_upto m B)))

  pub back_last : {w j d r : ℕ} {out : List ℕ} → Backward10 v k at l w j out → j ≡ 1 → d ≡ 48 + w % 10 → r ≡ at + k → Put (padded k v) at l (set out at d) r
  back_last {w} {j} {d} {r} {out} B z x e =
      let B' : Backward10 v k at l w 1 out = rw z at B in
      let n : at + 0 ≡ at = omega arith in
      let C : Backward10 v k at l (w / 10) 0 (set out at (48 + w % 10)) = rw n at (back_one B') in
      rw x (back_end C refl e)

-- ---- a number's digits
pub word_no : {n : ℕ} {b : Bool} (v at size : ℕ) → n ≡ length (decimal v) → b ≡ leb (at + n) size → b ≡ false → leb (at + length (decimal v)) size ≡ false
word_no v at size e f g = ap (λ (k : ℕ). leb (at + k) size) (sym e) ∙ sym f ∙ g

pub word_put : {n at r : ℕ} {l l' : List ℕ} {b : Bool} (v : ℕ) → n ≡ length (decimal v) → b ≡ leb (at + n) (length l) → b ≡ true
    → Put (padded n v) at l l' r → Put (given (leb (at + length (decimal v)) (length l)) (decimal v)) at l l' r
word_put {n} {at} {r} {l} {l'} v e f g p =
    let t : padded n v ≡ decimal v = ap (λ (k : ℕ). padded k v) e ∙ sym (decimal-padded v) in
    given_yes (ap (λ (k : ℕ). leb (at + k) (length l)) (sym e) ∙ sym f ∙ g) (subst (λ (x : List ℕ). Put x at l l' r) t p)

-- room for a first text and 18 bytes more
pub first_room : (at n size : ℕ) → at + (n + 18) ≤ size → at + n ≤ size
first_room at n size h = omega arith

pub second_room : {at m : ℕ} {x y : List ℕ} (n v : ℕ) → at + (n + 18) ≤ length x → Put (padded n v) at x y m → m + 18 ≤ length y
second_room n v h p = omega (arith, put_length p, p.next, length-padded n v)

-- ---- a number in two parts: the lower part alone, or the upper part's digits and 18 of the lower
module _ (w : Long) (below : w.low < 10 ^ 18) where
  alone : w.high ≡ 0 → value_of w ≡ w.low
  alone e = omega arith

  parts : {n : ℕ} → (w.high ≡ 0 → ⊥) → n ≡ length (decimal w.high) → padded n w.high ++ padded 18 w.low ≡ decimal (value_of w)
  parts {n} h e =
      ap (λ (t : List ℕ). t ++ padded 18 w.low) (ap (λ (k : ℕ). padded k w.high) e ∙ sym (decimal-padded w.high))
      ∙ sym (decimal_split 18 w.high w.low (omega arith) below)

  room : {n : ℕ} → (w.high ≡ 0 → ⊥) → n ≡ length (decimal w.high) → n + 18 ≡ length (decimal (value_of w))
  room {n} h e =
      let a = length-append (padded n w.high) (padded 18 w.low) in
      let b = ap length (parts h e) in
      omega (arith, length-padded n w.high, length-padded 18 w.low)

  tested : (at size : ℕ) (b : Bool) → leb (at + length (decimal (value_of w))) size ≡ b → fitting w at size ≡ b
  tested at size b e = ap (λ (t : Bool). t && leb (at + length (decimal (value_of w))) size) (lt-ltb w.low (10 ^ 18) below) ∙ e

  pub long_alone : {at r : ℕ} {x y : List ℕ} → w.high ≡ 0 → Put (given (leb (at + length (decimal w.low)) (length x)) (decimal w.low)) at x y r
      → Put (given (fitting w at (length x)) (decimal (value_of w))) at x y r
  long_alone {at} {r} {x} {y} e p =
      let t : fitting w at (length x) ≡ leb (at + length (decimal w.low)) (length x) = tested at (length x) _ (ap (λ (v : ℕ). leb (at + length (decimal v)) (length x)) (alone e)) in
      rw (t, alone e) p

  module _ {n : ℕ} {b : Bool} (at : ℕ) (x : List ℕ) (h : w.high ≡ 0 → ⊥) (e : n ≡ length (decimal w.high)) (f : b ≡ leb (at + (n + 18)) (length x)) where
    answer : fitting w at (length x) ≡ b
    answer = tested at (length x) b (ap (λ (k : ℕ). leb (at + k) (length x)) (sym (room h e)) ∙ sym f)

    pub long_no : b ≡ false → Put (given (fitting w at (length x)) (decimal (value_of w))) at x x at
    long_no g = given_no _ at x (answer ∙ g)

    pub long_put : {m r : ℕ} {y z : List ℕ} → b ≡ true → Put (padded n w.high) at x y m → Put (padded 18 w.low) m y z r
        → Put (given (fitting w at (length x)) (decimal (value_of w))) at x z r
    long_put {m} {r} {y} {z} g p q = given_yes (answer ∙ g) (subst (λ (t : List ℕ). Put t at x z r) (parts h e) (put_then p q))

pub long-refused : (w : Long) (at : ℕ) (x : List ℕ) → 10 ^ 18 ≤ w.low → Put (given (fitting w at (length x)) (decimal (value_of w))) at x x at
long-refused w at x h = given_no _ at x (ap (λ (t : Bool). t && leb (at + length (decimal (value_of w))) (length x)) (le-ltb w.low (10 ^ 18) h))

-- the two parts of a number
pub long_of_lem : {n high low : ℕ} → high * 10 ^ 18 + low ≡ n → low < 10 ^ 18 → ◌≡◌ {A = Long} (record { high = high; low = low }) (long_of n)
long_of_lem {n} {high} {low} e h =
    let eh : high ≡ n / 10 ^ 18 = omega arith in
    let el : low ≡ n % 10 ^ 18 = omega arith in
    λ i. record { high = eh i; low = el i }

-- a number that is held in two parts is written where it has room
pub long_held : (n : ℕ) {at r : ℕ} {l l' : List ℕ} (w : Long) → w ≡ long_of n → at + length (decimal n) ≤ length l
    → Put (given (fitting w at (length l)) (decimal (value_of w))) at l l' r → Put (decimal n) at l l' r
unfolding given
long_held n {at} {r} {l} {l'} w held h p =
    let value : value_of w ≡ n = ap value_of held ∙ div-add-mod' n (10 ^ 18) in
    let low : w.low ≡ n % 10 ^ 18 = ap (λ (x : Long). x.low) held in
    let fits : ℕ → Bool = λ v. leb (at + length (decimal v)) (length l) in
    let e : fits (value_of w) ≡ true = ap fits value ∙ le-leb (at + length (decimal n)) (length l) h in
    subst (λ (t : List ℕ). Put t at l l' r) (ap decimal value) (rw (tested w (omega (arith, low)) at (length l) true e) at p)
