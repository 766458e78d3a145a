-- Lines written one behind another, and the line of a fill's ends. Assumes nothing.
use Rattle.std.proofs.Common.{◌≡◌, ℕ, suc, ◌+◌, ◌-◌, ◌*◌, ◌/◌, ◌%◌, ◌^◌, ◌<◌, ◌≤◌, Bool, true, false, cond, eqb, leb, List, [], ◌∷◌, ◌++◌, length, get_or, take, drop, set, sym, refl, ap, ◌∙◌, subst, ap₂, append_assoc, append-nil, add-zero, div-add-mod', zero-mul, arith, length-append, length-take-le, take_all, eq-eqb, ne_eqb, le-leb}
use native.Mathlib.Nat.{zero-div, div_self, mod_self}
use borrow.Author.Tests.{lt-leb}
use Rattle.base.proofs.Put.{put_nothing, put_byte, put_then, put_length, given_room}
use Rattle.base.specs.Put.{Put, given}
use Rattle.base.specs.Bytes.{le_bytes, le_nat, flat}
use Rattle.base.specs.Table.{table}
use Rattle.base.proofs.Bytes.{length-le_bytes, flat_append, le_round}
use Rattle.base.proofs.Table.{table-append}
use Rattle.text.specs.decimal.Decimal.{decimal}
use Rattle.text.specs.decimal.Long.{long_of, value_of, fitting}
use Rattle.text.specs.declared.decimal.Long.{Long}
use Rattle.text.proofs.decimal.Decimal.{decimal-long, length-word}
use Rattle.text.proofs.decimal.Backward.{long_held}
use Rattle.fills.specs.FillBytes.{elements, refusal_of}
use Rattle.fills.specs.Kinds.{kind_at}
use Rattle.text.specs.hexfloat.Text.{hex_text, widened}
use Rattle.text.proofs.hexfloat.Laws.{text_few}
use Rattle.text.specs.lines.Lines.{text_of, line, value_at, lines_of, accepted, ends_of, Counts}
use Rattle.fills.proofs.Sounds.{row}
use Rattle.text.proofs.lines.Values.{values-append}

pub counts : (n : ℕ) (l : List ℕ) → n ≤ length l → Counts n l
counts n l h = (h, sym (length-take-le n l h))

-- ---- the text of an element
room_24 : {at r : ℕ} {l l' : List ℕ} (t : List ℕ) → at + 24 ≤ length l → Put (given (leb (at + 24) (length l)) t) at l l' r → Put t at l l' r
unfolding given
room_24 {at} {r} {l} t h p = rw (le-leb (at + 24) (length l) h) at p

module _ (k b : ℕ) {at r : ℕ} {l l' : List ℕ} (room : at + 24 ≤ length l) where
  pub text_integer : k ≤ 2 → b < 2 ^ 64 → Put (given (leb (at + length (decimal b)) (length l)) (decimal b)) at l l' r → Put (text_of k b) at l l' r
  unfolding text_of
  text_integer h g p = rw (le-leb k 2 h) (given_room (decimal b) (omega (arith, length-word b g)) p)

  pub text_single : 2 < k → (kind_at k).kind.width ≡ 4 → Put (given (leb (at + 24) (length l)) (hex_text (widened b))) at l l' r → Put (text_of k b) at l l' r
  unfolding text_of
  text_single h e p = rw (lt-leb k 2 h, eq-eqb (kind_at k).kind.width 4 e) (room_24 (hex_text (widened b)) room p)

  pub text_double : 2 < k → ((kind_at k).kind.width ≡ 4 → ⊥) → Put (given (leb (at + 24) (length l)) (hex_text b)) at l l' r → Put (text_of k b) at l l' r
  unfolding text_of
  text_double h e p = rw (lt-leb k 2 h, ne_eqb (kind_at k).kind.width 4 e) (room_24 (hex_text b) room p)

pub text_short : (k b : ℕ) → b < 2 ^ 64 → length (text_of k b) ≤ 24
unfolding text_of
text_short k b h = go (leb k 2) (eqb (kind_at k).kind.width 4)
  where
    go : (x y : Bool) → length (cond x (decimal b) (cond y (hex_text (widened b)) (hex_text b))) ≤ 24
    go true y = omega (arith, length-word b h)
    go false true = text_few (widened b)
    go false false = text_few b

pub line_short : (k b : ℕ) → b < 2 ^ 64 → length (line k b) ≤ 25
unfolding line
line_short k b h = omega (arith, length-append (text_of k b) (10 ∷ []), text_short k b h)

-- a newline behind a text: there is room for it
pub line_room : {at m : ℕ} {l l' : List ℕ} (k b : ℕ) → b < 2 ^ 64 → at + 25 ≤ length l → Put (text_of k b) at l l' m → (m < length l') × (m + 1 ≤ at + 25)
line_room k b h room p = let n = text_short k b h in omega (arith, put_length p, p.next)

pub line_put : {at m : ℕ} {l l' : List ℕ} (k b : ℕ) → Put (text_of k b) at l l' m → Put (line k b) at l (set l' m 10) (m + 1)
unfolding line
line_put k b p = put_byte 10 p

-- ---- the loop: the lines of the first i of n elements are written, and 25 bytes are free for each of the others
pub record Going (k : ℕ) (raw : List ℕ) (l₀ : List ℕ) (n i : ℕ) (l : List ℕ) (at : ℕ) : Type 0 where
  pub texts : Put (flat (line k) (table i (value_at (kind_at k).kind.width raw))) 0 l₀ l at
  pub space : at + 25 * (n - i) ≤ length l
  pub long : length l ≡ length l₀
  pub upto : i ≤ n

module _ {k n : ℕ} {raw l₀ : List ℕ} where
  pub going_start : 25 * n ≤ length l₀ → Going k raw l₀ n 0 l₀ 0
  unfolding flat table
  going_start h = record { texts = put_nothing 0 l₀; space = omega arith; long = refl; upto = omega arith }

  pub going_more : {i at m b : ℕ} {l l' : List ℕ} → Going k raw l₀ n i l at → i < n → b ≡ value_at (kind_at k).kind.width raw i
      → Put (line k b) at l l' m → m ≤ at + 25 → Going k raw l₀ n (i + 1) l' m
  unfolding flat table
  going_more {i} {at} {m} {b} {l} {l'} G h e p few =
      let f : ℕ → ℕ = value_at (kind_at k).kind.width raw in
      let t : flat (line k) (table (i + 1) f) ≡ flat (line k) (table i f) ++ line k b =
      ap (flat (line k)) (table-append i 1 f)
      ∙ flat_append (line k) (table i f) (f (i + 0) ∷ [])
      ∙ ap (λ (x : List ℕ). flat (line k) (table i f) ++ x) (append-nil (line k (f (i + 0))) ∙ ap (λ (j : ℕ). line k (f j)) (add-zero i) ∙ ap (line k) (sym e))
      in
      record {
        texts = rw t (put_then G.texts p);
        space = omega (arith, G.space, put_length p);
        long = put_length p ∙ G.long;
        upto = omega arith;
      }

  -- one line more has room
  pub going_room : {i at : ℕ} {l : List ℕ} → Going k raw l₀ n i l at → i < n → at + 25 ≤ length l
  going_room G h = omega (arith, G.space)

  pub going_end : {i at : ℕ} {l : List ℕ} → Going k raw l₀ n i l at → n ≤ i → n ≡ length raw / (kind_at k).kind.width → Put (lines_of k raw) 0 l₀ l at
  unfolding lines_of
  going_end {i} {at} {l} G h e =
      let j : i ≡ length raw / (kind_at k).kind.width = omega (arith, G.upto) in
      subst (λ (x : ℕ). Put (flat (line k) (table x (value_at (kind_at k).kind.width raw))) 0 l₀ l at) j G.texts

  pub going_counts : {i at : ℕ} {l : List ℕ} → Going k raw l₀ n i l at → Counts at l
  going_counts {i} {at} {l} G = counts at l (omega (arith, G.space))

-- ---- whether they are written at all
module _ (k n size : ℕ) where
  pub refused-kind : (refusal_of k n ≡ 0 → ⊥) → accepted k n size ≡ false
  unfolding accepted
  refused-kind h = rw (ne_eqb (refusal_of k n) 0 h) refl

  pub refused_room : {x : ℕ} → x ≡ elements k n → refusal_of k n ≡ 0 → size < 25 * x → accepted k n size ≡ false
  unfolding accepted
  refused_room {x} e h g = rw (eq-eqb (refusal_of k n) 0 h, ← e) (lt-leb (25 * x) size g)

  pub all_accepted : {x : ℕ} → x ≡ elements k n → refusal_of k n ≡ 0 → 25 * x ≤ size → accepted k n size ≡ true
  unfolding accepted
  all_accepted {x} e h g = rw (eq-eqb (refusal_of k n) 0 h, ← e) (le-leb (25 * x) size g)

-- ---- bytes in two parts
pub lines_append : (k : ℕ) (a b : List ℕ) → length a % (kind_at k).kind.width ≡ 0 → lines_of k (a ++ b) ≡ lines_of k a ++ lines_of k b
unfolding lines_of
lines_append k a b h =
    let w : ℕ = (kind_at k).kind.width in
    let e : length a / w * w ≡ length a = sym (add-zero (length a / w * w)) ∙ ap (λ (x : ℕ). length a / w * w + x) (sym h) ∙ div-add-mod' (length a) w in
    ap (flat (line k)) (values-append w (row k).wide a b (length a / w) e) ∙ flat_append (line k) _ _

-- ---- bytes of elements
one_line : (k x : ℕ) → x < 256 ^ (kind_at k).kind.width → lines_of k (le_bytes (kind_at k).kind.width x) ≡ line k x
unfolding lines_of flat table
one_line k x h =
    let w : ℕ = (kind_at k).kind.width in
    let n : length (le_bytes w x) ≡ w = length-le_bytes w x in
    let q : length (le_bytes w x) / w ≡ 1 = ap (λ (m : ℕ). m / w) n ∙ div_self (row k).wide in
    let v : value_at w (le_bytes w x) 0 ≡ x =
    ap (λ (m : ℕ). le_nat (take w (drop m (le_bytes w x)))) (zero-mul w) ∙ ap le_nat (take_all w (le_bytes w x) (omega (arith, n))) ∙ le_round w x h in
    ap (λ (m : ℕ). flat (line k) (table m (value_at w (le_bytes w x)))) q ∙ append-nil (line k (value_at w (le_bytes w x) 0)) ∙ ap (line k) v

no_line : (k : ℕ) → lines_of k [] ≡ []
unfolding lines_of flat table
no_line k = ap (λ (m : ℕ). flat (line k) (table m (value_at (kind_at k).kind.width []))) (zero-div (kind_at k).kind.width)

pub lines_of_elements : (k : ℕ) (xs : List ℕ) → ((i : ℕ) → get_or xs i 0 < 256 ^ (kind_at k).kind.width) → lines_of k (flat (le_bytes (kind_at k).kind.width) xs) ≡ flat (line k) xs
unfolding flat
lines_of_elements k [] h = no_line k
lines_of_elements k (x ∷ xs) h =
    let w : ℕ = (kind_at k).kind.width in
    lines_append k (le_bytes w x) (flat (le_bytes w) xs) (ap (λ (m : ℕ). m % w) (length-le_bytes w x) ∙ mod_self w)
    ∙ ap₂ (λ (a b : List ℕ). a ++ b) (one_line k x (h 0)) (lines_of_elements k xs (λ i. h (suc i)))

-- ---- the line of a fill's ends
sum_short : (a b : ℕ) → a < 2 ^ 64 → b < 2 ^ 64 → length (decimal (a + b)) ≤ 20
sum_short a b h g = decimal-long 19 (a + b) (omega arith)

module _ {a b at m : ℕ} {l l' : List ℕ} (w : Long) (ha : a < 2 ^ 64) (hb : b < 2 ^ 64) (held : w ≡ long_of (a + b))
    (room : at + 21 ≤ length l) (p : Put (given (fitting w at (length l)) (decimal (value_of w))) at l l' m) where
  sum_digits : Put (decimal (a + b)) at l l' m
  sum_digits = long_held (a + b) w held (omega (arith, sum_short a b ha hb)) p

  pub sum_room : (m < length l') × (m + 1 ≤ at + 21)
  sum_room = let n = sum_short a b ha hb in let q = sum_digits in omega (arith, put_length q, q.next)

  pub sum_put : (stop : ℕ) → Put (decimal (a + b) ++ (stop ∷ [])) at l (set l' m stop) (m + 1)
  sum_put stop = put_byte stop sum_digits

pub ends_put : (a b : ℕ) {m r : ℕ} {l l' l'' : List ℕ} → Put (decimal (a + 0) ++ (32 ∷ [])) 0 l l' m → Put (decimal (a + b) ++ (10 ∷ [])) m l' l'' r → Put (ends_of a b) 0 l l'' r
unfolding ends_of
ends_put a b {m} {r} {l} {l'} {l''} p q =
    let e : decimal (a + 0) ++ (32 ∷ []) ++ (decimal (a + b) ++ (10 ∷ [])) ≡ ends_of a b =
    append_assoc (decimal (a + 0)) (32 ∷ []) (decimal (a + b) ++ (10 ∷ [])) ∙ ap (λ (x : ℕ). decimal x ++ (32 ∷ (decimal (a + b) ++ (10 ∷ [])))) (add-zero a) in
    subst (λ (t : List ℕ). Put t 0 l l'' r) e (put_then p q)
