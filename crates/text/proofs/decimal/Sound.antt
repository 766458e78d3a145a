-- What is read as a number is the number's digits, and the byte that ends them. Assumes nothing.
use Rattle.std.proofs.Common.{None, ◌≡◌, ℕ, ◌+◌, ◌-◌, ◌*◌, ◌<◌, ◌≤◌, Bool, true, false, cond, ◌&&◌, eqb, leb, List, [], ◌∷◌, ◌++◌, length, drop, sym, refl, ap, ◌∙◌, append_assoc, append-nil, arith, drop-drop, eqb-true, leb-true}
use lib.Seq.{drop-append-add}
use Rattle.text.specs.declared.decimal.Number.{Number}
use Rattle.text.specs.decimal.Decimal.{decimal}
use Rattle.text.specs.decimal.Number.{extends, read, number_on, number_from, number_at}
use Rattle.text.proofs.decimal.Decimal.{decimal_small, decimal_digit}
use Rattle.text.proofs.decimal.Reading.{Digit, split, extends_digit}

-- xs holds the rest of n's digits behind those of v, and the byte stop
pub record Ends (top stop v i : ℕ) (xs : List ℕ) (n j : ℕ) : Type 0 where
  pub digits : List ℕ
  pub rest : List ℕ
  pub text : xs ≡ digits ++ (stop ∷ rest)
  pub number : decimal n ≡ decimal v ++ digits
  pub place : j ≡ i + length digits + 1
  pub bound : v ≤ top → n ≤ top

not_wrong : {n j : ℕ} → None ≡ read n j → ⊥
not_wrong e = cc

ends_now : (top stop v i b : ℕ) (s : List ℕ) (n j : ℕ) → b ≡ stop → read v (i + 1) ≡ read n j → Ends top stop v i (b ∷ s) n j
ends_now top stop v i b s n j e q =
    let r : ◌≡◌ {A = Number} (record { value = v; next = i + 1 }) (record { value = n; next = j }) = cc in
    let en : v ≡ n = ap (λ (x : Number). x.value) r in
    let ej : i + 1 ≡ j = ap (λ (x : Number). x.next) r in
    record {
      digits = [];
      rest = s;
      text = ap (λ (x : ℕ). x ∷ s) e;
      number = ap decimal (sym en) ∙ sym (append-nil (decimal v));
      place = omega arith;
      bound = λ h. omega arith;
    }

ends_later : (top stop v i b : ℕ) (s : List ℕ) (n j : ℕ) → 0 < v → Digit top v b → Ends top stop (v * 10 + (b - 48)) (i + 1) s n j → Ends top stop v i (b ∷ s) n j
ends_later top stop v i b s n j p d r =
    let q : 48 + (b - 48) ≡ b = omega (arith, d.low) in
    let e : decimal (v * 10 + (b - 48)) ≡ decimal v ++ (b ∷ []) = decimal_digit v (b - 48) p (omega (arith, d.high)) ∙ ap (λ (x : ℕ). decimal v ++ (x ∷ [])) q in
    record {
      digits = b ∷ r.digits;
      rest = r.rest;
      text = ap (λ (x : List ℕ). b ∷ x) r.text;
      number = r.number ∙ ap (λ (x : List ℕ). x ++ r.digits) e ∙ append_assoc (decimal v) (b ∷ []) r.digits;
      place = omega (arith, r.place);
      bound = λ h. r.bound d.within;
    }

pub on_sound : (top stop v i : ℕ) (xs : List ℕ) (n j : ℕ) → number_on top stop v i xs ≡ read n j → Ends top stop v i xs n j
unfolding number_on
on_sound top stop v i [] n j e = absurd (not_wrong e)
on_sound top stop v i (b ∷ s) n j e = go (eqb b stop) refl (leb 1 v && extends top v b) refl e (on_sound top stop (v * 10 + (b - 48)) (i + 1) s n j)
  where
    go : (t : Bool) → eqb b stop ≡ t → (x : Bool) → (leb 1 v && extends top v b) ≡ x → cond t (read v (i + 1)) (cond x (number_on top stop (v * 10 + (b - 48)) (i + 1) s) None) ≡ read n j → (number_on top stop (v * 10 + (b - 48)) (i + 1) s ≡ read n j → Ends top stop (v * 10 + (b - 48)) (i + 1) s n j) → Ends top stop v i (b ∷ s) n j
    go true p x q e f = ends_now top stop v i b s n j (eqb-true b stop p) e
    go false p true q e f =
        let w = split (leb 1 v) _ q in
        ends_later top stop v i b s n j (leb-true 1 v w.0) (extends_digit top v b w.1) (f e)
    go false p false q e f = absurd (not_wrong e)

pub from_sound : (top stop i : ℕ) (xs : List ℕ) (n j : ℕ) → number_from top stop i xs ≡ read n j → (r : List ℕ) × (xs ≡ decimal n ++ (stop ∷ r)) × (j ≡ i + length (decimal n) + 1) × (n ≤ top)
unfolding number_from
from_sound top stop i [] n j e = absurd (not_wrong e)
from_sound top stop i (b ∷ s) n j e = go (extends top 0 b) refl e
  where
    found : Digit top 0 b → Ends top stop (b - 48) (i + 1) s n j → (r : List ℕ) × (b ∷ s ≡ decimal n ++ (stop ∷ r)) × (j ≡ i + length (decimal n) + 1) × (n ≤ top)
    found d r =
        let q : 48 + (b - 48) ≡ b = omega (arith, d.low) in
        let c : decimal n ≡ b ∷ r.digits = r.number ∙ ap (λ (x : List ℕ). x ++ r.digits) (decimal_small (b - 48) (omega (arith, d.high)) ∙ ap (λ (x : ℕ). x ∷ []) q) in
        (r.rest, ap (λ (x : List ℕ). b ∷ x) r.text ∙ ap (λ (x : List ℕ). x ++ (stop ∷ r.rest)) (sym c), omega (arith, r.place, ap length c), r.bound (omega (arith, d.within)))

    go : (t : Bool) → extends top 0 b ≡ t → cond t (number_on top stop (b - 48) (i + 1) s) None ≡ read n j → (r : List ℕ) × (b ∷ s ≡ decimal n ++ (stop ∷ r)) × (j ≡ i + length (decimal n) + 1) × (n ≤ top)
    go true q e = found (extends_digit top 0 b q) (on_sound top stop (b - 48) (i + 1) s n j e)
    go false q e = absurd (not_wrong e)

-- a number that is read at a place stands there, up to the place behind it
pub number_sound : (top stop : ℕ) (s : List ℕ) (at n j : ℕ) → number_at top stop s at ≡ read n j → (drop at s ≡ decimal n ++ (stop ∷ drop j s)) × (n ≤ top)
number_sound top stop s at n j e =
    let r = from_sound top stop at (drop at s) n j e in
    let k : j ≡ at + (length (decimal n) + 1) = omega (arith, r.2) in
    let q : drop j s ≡ r.0 = ap (λ (x : ℕ). drop x s) k ∙ sym (drop-drop (length (decimal n) + 1) at s) ∙ ap (drop (length (decimal n) + 1)) r.1 ∙ drop-append-add (decimal n) (stop ∷ r.0) 1 in
    (r.1 ∙ ap (λ (x : List ℕ). decimal n ++ (stop ∷ x)) (sym q), r.3)
