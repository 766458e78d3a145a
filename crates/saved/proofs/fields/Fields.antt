-- Fields laid out and read back, for any layout: its length, both round trips, a run of fields of one width. Assumes nothing.
use Rattle.std.proofs.Common.{◌≡◌, ℕ, zero, suc, ◌+◌, ◌*◌, ◌/◌, ◌%◌, ◌^◌, ◌<◌, List, [], ◌∷◌, ◌++◌, length, get_or, take, drop, replicate, sym, refl, ap, ◌∙◌, ap₂, le_of_suc-le-suc, not-suc-le-zero, add-zero, add_assoc, suc-mul, zero-add, zero-mul, arith, lit<, length-append, length-drop, take-append-drop, length-take-le, get_or-drop, drop-drop, take_at, drop_at}
use Rattle.base.specs.Bytes.{le_bytes, le_nat, flat}
use Rattle.base.proofs.Bytes.{length-le_bytes, le_round}
use Rattle.saved.specs.fields.Fields.{size_of, laid_out, fields_at, fields}

-- ---- a number and its bytes
-- every element is a byte
abbrev pub Bytes : List ℕ → Type 0
Bytes s = (i : ℕ) → get_or s i 0 < 256

pub le_back : (s : List ℕ) → Bytes s → le_bytes (length s) (le_nat s) ≡ s
le_back [] h = refl
le_back (b ∷ s) h =
    let small : b < 256 = h 0 in
    let e : (b + 256 * le_nat s) % 256 ≡ b = omega arith in
    let f : (b + 256 * le_nat s) / 256 ≡ le_nat s = omega arith in
    λ i. e i ∷ (ap (le_bytes (length s)) f ∙ le_back s (λ j. h (suc j))) i

-- a part of bytes is bytes
pub bytes_drop : (n : ℕ) (s : List ℕ) → Bytes s → Bytes (drop n s)
bytes_drop n s h i = rw (get_or-drop n s i 0) (h (n + i))

bytes_take : (n : ℕ) (s : List ℕ) → Bytes s → Bytes (take n s)
bytes_take zero s h i = lit< tt
bytes_take (suc n) [] h i = lit< tt
bytes_take (suc n) (b ∷ s) h zero = h 0
bytes_take (suc n) (b ∷ s) h (suc i) = bytes_take n s (λ j. h (suc j)) i

-- ---- both round trips
-- each field is below 256 ^ its width, and there are as many fields as widths
abbrev pub Fits : List ℕ → List ℕ → Type 0
Fits [] [] = Unit {0}
Fits [] (x ∷ xs) = ⊥
Fits (w ∷ ws) [] = ⊥
Fits (w ∷ ws) (x ∷ xs) = (x < 256 ^ w) × Fits ws xs

pub length_laid : (ws xs : List ℕ) → length xs ≡ length ws → length (laid_out ws xs) ≡ size_of ws
unfolding laid_out
length_laid [] xs e = refl
length_laid (w ∷ ws) [] e = absurd (omega arith)
length_laid (w ∷ ws) (x ∷ xs) e = length-append (le_bytes w x) (laid_out ws xs) ∙ ap₂ ◌+◌ (length-le_bytes w x) (length_laid ws xs (omega arith))

read_laid : (ws xs : List ℕ) → Fits ws xs → (at : ℕ) (s : List ℕ) → drop at s ≡ laid_out ws xs → fields_at at ws s ≡ xs
unfolding laid_out fields_at
read_laid [] [] f at s e = refl
read_laid [] (x ∷ xs) f at s e = absurd f
read_laid (w ∷ ws) [] f at s e = absurd f
read_laid (w ∷ ws) (x ∷ xs) f at s e =
    let head : le_nat (take w (drop at s)) ≡ x = ap (λ (l : List ℕ). le_nat (take w l)) e ∙ ap le_nat (take_at (le_bytes w x) (laid_out ws xs) w (length-le_bytes w x)) ∙ le_round w x f.0 in
    let rest : drop (at + w) s ≡ laid_out ws xs = sym (drop-drop w at s) ∙ ap (drop w) e ∙ drop_at (le_bytes w x) (laid_out ws xs) w (length-le_bytes w x) in
    ap₂ (λ (y : ℕ) (l : List ℕ). y ∷ l) head (read_laid ws xs f.1 (at + w) s rest)

pub fields_laid : (ws xs : List ℕ) → Fits ws xs → fields ws (laid_out ws xs) ≡ xs
fields_laid ws xs f = read_laid ws xs f 0 (laid_out ws xs) refl

laid_read : (ws : List ℕ) (at : ℕ) (s : List ℕ) → length s ≡ at + size_of ws → Bytes s → laid_out ws (fields_at at ws s) ≡ drop at s
unfolding laid_out fields_at
laid_read [] at s e h = sym (all_gone (drop at s) (length-drop at s ∙ omega arith))
  where
    all_gone : (l : List ℕ) → length l ≡ 0 → l ≡ []
    all_gone [] e = refl
    all_gone (x ∷ l) e = absurd (omega arith)
laid_read (w ∷ ws) at s e h =
    let l : List ℕ = drop at s in
    let long : length (take w l) ≡ w = length-take-le w l (rw length-drop (omega arith)) in
    let head : le_bytes w (le_nat (take w l)) ≡ take w l = ap (λ (n : ℕ). le_bytes n (le_nat (take w l))) (sym long) ∙ le_back (take w l) (bytes_take w l (bytes_drop at s h)) in
    let rest : laid_out ws (fields_at (at + w) ws s) ≡ drop w l = laid_read ws (at + w) s (e ∙ sym (add_assoc at w (size_of ws))) h ∙ sym (drop-drop w at s) in
    ap₂ ◌++◌ head rest ∙ take-append-drop w l

pub laid_fields : (ws s : List ℕ) → length s ≡ size_of ws → Bytes s → laid_out ws (fields ws s) ≡ s
laid_fields ws s e h = laid_read ws 0 s (e ∙ sym (zero-add (size_of ws))) h

-- ---- a run of fields of one width
-- laid out, they are the bytes of each, one after another
pub laid_run : (w : ℕ) (xs : List ℕ) → laid_out (replicate (length xs) w) xs ≡ flat (le_bytes w) xs
unfolding laid_out flat
laid_run w [] = refl
laid_run w (x ∷ xs) = ap (λ (l : List ℕ). le_bytes w x ++ l) (laid_run w xs)

-- read, field i stands i widths on
pub field_run : (w n : ℕ) (at : ℕ) (s : List ℕ) (i : ℕ) → i < n → get_or (fields_at at (replicate n w) s) i 0 ≡ le_nat (take w (drop (at + i * w) s))
unfolding fields_at
field_run w zero at s i h = absurd (not-suc-le-zero h)
field_run w (suc n) at s zero h = ap (λ (k : ℕ). le_nat (take w (drop k s))) (sym (ap (λ (k : ℕ). at + k) (zero-mul w) ∙ add-zero at))
field_run w (suc n) at s (suc i) h =
    let e : at + w + i * w ≡ at + suc i * w = rw suc-mul (omega arith) in
    field_run w n (at + w) s i (le_of_suc-le-suc h) ∙ ap (λ (k : ℕ). le_nat (take w (drop k s))) e
