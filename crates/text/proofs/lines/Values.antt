-- The elements that bytes hold.
use Rattle.std.proofs.Common.{◌≡◌, ℕ, ◌+◌, ◌*◌, ◌/◌, ◌%◌, ◌^◌, ◌<◌, ◌≤◌, List, [], ◌∷◌, ◌++◌, length, get_or, take, drop, sym, refl, ap, ◌∙◌, ap₂, mul-le-mul_right, suc-mul, add-mul, add_comm, div-mul-le_self, mul-div_cancel, arith, length-append, length-drop, get_or-drop}
use native.Mathlib.Nat.{add-mul-div_right}
use lib.Seq.{take-append-le, drop-append-le, drop-append-add}
use Rattle.base.specs.Bytes.{le_nat}
use Rattle.base.specs.Table.{table}
use Rattle.base.proofs.Table.{table-append, table_same}
use Rattle.text.specs.lines.Lines.{value_at, values_in}

-- ---- an element of four bytes is the lower half of the word that begins there
pub low_half : (s : List ℕ) → ((i : ℕ) → get_or s i 0 < 256) → (le_nat (take 4 s) ≡ le_nat (take 8 s) % 2 ^ 32) × (le_nat (take 4 s) < 2 ^ 32)
low_half [] h = (refl, omega arith)
low_half (a ∷ []) h = omega (arith, h 0)
low_half (a ∷ b ∷ []) h = omega (arith, h 0, h 1)
low_half (a ∷ b ∷ c ∷ []) h = omega (arith, h 0, h 1, h 2)
low_half (a ∷ b ∷ c ∷ d ∷ s) h = omega (arith, h 0, h 1, h 2, h 3)

-- ---- where an element stands, by the width that the code found
module _ {w W : ℕ} (found : w ≡ W) (i : ℕ) where
  pub before-end : (n x : ℕ) → 0 < x → w ≡ x → i < n / W → i * x < n
  before-end n x some e h =
      let g : i < n / x = rw (sym found ∙ e) at h in
      omega (arith, mul-le-mul_right x g, suc-mul i x, div-mul-le_self n x)

  pub four_at : {r : ℕ} (raw : List ℕ) → ((j : ℕ) → get_or raw j 0 < 256) → w ≡ 4 → r ≡ le_nat (take 8 (drop (i * 4) raw)) → r % 2 ^ 32 ≡ value_at W raw i
  four_at raw h e q =
      let small : (j : ℕ) → get_or (drop (i * 4) raw) j 0 < 256 = λ j. rw get_or-drop (h (i * 4 + j)) in
      ap (λ (x : ℕ). x % 2 ^ 32) q ∙ sym (low_half (drop (i * 4) raw) small).0 ∙ ap (λ (x : ℕ). value_at x raw i) (sym e ∙ found)

  pub eight-at : {r : ℕ} (raw : List ℕ) → w ≡ 8 → r ≡ le_nat (take 8 (drop (i * 8) raw)) → r ≡ value_at W raw i
  eight-at raw e q = q ∙ ap (λ (x : ℕ). value_at x raw i) (sym e ∙ found)

-- ---- bytes in two parts, of which the first holds q whole elements
module _ (w : ℕ) (some : 0 < w) (a b : List ℕ) (q : ℕ) (e : q * w ≡ length a) where
  count : length (a ++ b) / w ≡ q + length b / w
  count =
      let n : length (a ++ b) ≡ length b + q * w = length-append a b ∙ omega (arith, e) in
      ap (λ (x : ℕ). x / w) n ∙ add-mul-div_right (length b) q some ∙ add_comm (length b / w) q

  own : length a / w ≡ q
  own = ap (λ (x : ℕ). x / w) (sym e) ∙ mul-div_cancel q some

  before : (i : ℕ) → i < q → value_at w (a ++ b) i ≡ value_at w a i
  before i h =
      let n : i * w + w ≤ length a = omega (arith, mul-le-mul_right w h, suc-mul i w, e) in
      let d : w ≤ length (drop (i * w) a) = omega (arith, length-drop (i * w) a) in
      ap (λ (l : List ℕ). le_nat (take w l)) (drop-append-le (i * w) a b (omega arith)) ∙ ap le_nat (take-append-le w (drop (i * w) a) b d)

  after : (i : ℕ) → value_at w (a ++ b) (q + i) ≡ value_at w b i
  after i =
      let n : (q + i) * w ≡ length a + i * w = add-mul q i w ∙ ap (λ (x : ℕ). x + i * w) e in
      ap (λ (x : ℕ). le_nat (take w (drop x (a ++ b)))) n ∙ ap (λ (l : List ℕ). le_nat (take w l)) (drop-append-add a b (i * w))

  pub values-append : values_in w (a ++ b) ≡ values_in w a ++ values_in w b
  values-append =
      let f : ℕ → ℕ = value_at w (a ++ b) in
      ap (λ (n : ℕ). table n f) count
      ∙ table-append q (length b / w) f
      ∙ ap₂ (λ (x y : List ℕ). x ++ y) (table_same q f (value_at w a) before ∙ ap (λ (n : ℕ). table n (value_at w a)) (sym own))
      (table_same (length b / w) (λ i. f (q + i)) (value_at w b) (λ i h. after i))
