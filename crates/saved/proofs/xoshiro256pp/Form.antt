-- The form of an eight-lane generator as it is stored and read, both round trips, and which forms are accepted. Assumes nothing.
use Rattle.std.proofs.Common.{◌≡◌, ℕ, ◌+◌, ◌*◌, ◌^◌, ◌<◌, Bool, true, false, cond, not, List, [], ◌∷◌, ◌++◌, length, get_or, take, drop, sym, refl, ap, ◌∙◌, ap₂, arith, length-append, pow_pos, eq-eqb, ne_eqb}
use native.Mathlib.Decide.{ℕ_discrete}
use borrow.Author.Tests.{not-true}
use Rattle.base.specs.Bytes.{le_bytes, le_nat, flat}
use Rattle.base.specs.Every.{every}
use Rattle.base.specs.Refusal.{Answer}
use Rattle.base.specs.Quad.{column, rows_of}
use Rattle.base.specs.Stored.{stored}
use Rattle.base.specs.Table.{table}
use Rattle.base.proofs.Bytes.{flat_append, flat-length, length-le_bytes}
use Rattle.base.proofs.Quad.{column-rows_of}
use Rattle.base.proofs.Stored.{stored-two, stored-whole}
use Rattle.base.proofs.Table.{table-get_or}
use Rattle.saved.specs.fields.Fields.{laid_out, fields_at, fields}
use Rattle.saved.proofs.fields.Bounds.{table_below, append-below, fits_run}
use Rattle.saved.proofs.fields.Fields.{Bytes, Fits, laid_run, field_run, length_laid, fields_laid, laid_fields}
use Rattle.saved.proofs.fields.Tests.{all_pass, one_fails, each_passes}
use Rattle.xoshiro.specs.scalar.Calls.{state_of}
use Rattle.xoshiro_steps.specs.Xoshiro256pp.{all_zero}
use Rattle.xoshiro.specs.declared.scalar.Xoshiro256pp.{Xoshiro256pp}
use Rattle.xoshiro.specs.x8.Calls.{is_valid, of_lanes, from_lanes, blank8}
use Rattle.xoshiro.specs.x8.Claims.{Eights}
use Rattle.xoshiro.specs.x8.Lanes.{lane_of, of_states}
use Rattle.xoshiro.specs.declared.x8.Xoshiro256ppX8.{Xoshiro256ppX8}
use Rattle.saved.specs.xoshiro256pp.Claims.{Words}
use Rattle.saved.specs.xoshiro256pp.Form.{layout, row, fields_of, form_of, lane_in, loaded}

pub form-length : (g : Xoshiro256ppX8) → length (form_of g) ≡ 256
unfolding form_of table
form-length g = length_laid layout (fields_of g) refl

-- ---- stored: four rows of 64 bytes
bytes-length : (r : List ℕ) → length r ≡ 8 → length (flat (le_bytes 8) r) ≡ 64
bytes-length r e = flat-length (le_bytes 8) 8 (length-le_bytes 8) r ∙ ap (λ (k : ℕ). k * 8) e

form-rows : (g : Xoshiro256ppX8) → Eights g → flat (le_bytes 8) g.s0 ++ flat (le_bytes 8) g.s1 ++ flat (le_bytes 8) g.s2 ++ flat (le_bytes 8) g.s3 ≡ form_of g
unfolding form_of table
form-rows g w =
    let f : ℕ → List ℕ = le_bytes 8 in
    sym (
    flat_append f (g.s0 ++ g.s1 ++ g.s2) g.s3
    ∙ ap (λ (l : List ℕ). l ++ flat f g.s3) (flat_append f (g.s0 ++ g.s1) g.s2 ∙ ap (λ (l : List ℕ). l ++ flat f g.s2) (flat_append f g.s0 g.s1)))
    ∙ sym (laid_run 8 (fields_of g) ∙ (λ i. flat f (table-get_or 8 0 g.s0 w.row0 i ++ table-get_or 8 0 g.s1 w.row1 i ++ table-get_or 8 0 g.s2 w.row2 i ++ table-get_or 8 0 g.s3 w.row3 i)))

pub rows-stored : (g : Xoshiro256ppX8) (l : List ℕ) → length l ≡ 256 → Eights g → {l1 l2 l3 out : List ℕ}
    → l1 ≡ stored l 0 (flat (le_bytes 8) g.s0) → l2 ≡ stored l1 64 (flat (le_bytes 8) g.s1) → l3 ≡ stored l2 128 (flat (le_bytes 8) g.s2)
    → out ≡ stored l3 192 (flat (le_bytes 8) g.s3) → out ≡ form_of g
rows-stored g l e w {l1} {l2} {l3} {out} e1 e2 e3 e4 =
    let A = flat (le_bytes 8) g.s0 in
    let B = flat (le_bytes 8) g.s1 in
    let C = flat (le_bytes 8) g.s2 in
    let D = flat (le_bytes 8) g.s3 in
    let long : (n : ℕ) (x y : List ℕ) → length x ≡ n → length y ≡ 8 → length (x ++ flat (le_bytes 8) y) ≡ n + 64 = λ n x y a b. length-append x (flat (le_bytes 8) y) ∙ ap₂ ◌+◌ a (bytes-length y b) in
    let la = bytes-length g.s0 w.row0 in
    let lab = long 64 A g.s1 la w.row1 in
    let labc = long 128 (A ++ B) g.s2 lab w.row2 in
    let ab : l2 ≡ stored l 0 (A ++ B) = stored-two l 0 A B e1 (ap (λ (k : ℕ). 0 + k) la) e2 in
    let abc : l3 ≡ stored l 0 (A ++ B ++ C) = stored-two l 0 (A ++ B) C ab (ap (λ (k : ℕ). 0 + k) lab) e3 in
    let abcd : out ≡ stored l 0 (A ++ B ++ C ++ D) = stored-two l 0 (A ++ B ++ C) D abc (ap (λ (k : ℕ). 0 + k) labc) e4 in
    abcd ∙ ap (stored l 0) (form-rows g w) ∙ stored-whole l (form_of g) (e ∙ sym (form-length g))

-- ---- read: field k stands 8 k bytes on
field : (s : List ℕ) (k at : ℕ) → k < 32 → at ≡ k * 8 → {x : ℕ} → x ≡ le_nat (take 8 (drop at s)) → x ≡ get_or (fields layout s) k 0
field s k at h e q =
    let e' : at ≡ 0 + k * 8 = omega arith in
    q ∙ ap (λ (n : ℕ). le_nat (take 8 (drop n s))) e' ∙ sym (field_run 8 32 0 s k h)

pub lane_read : (s : List ℕ) (i : ℕ) → i < 8 → {at w0 w1 w2 w3 : ℕ} → at ≡ i * 8 → w0 ≡ le_nat (take 8 (drop at s)) → w1 ≡ le_nat (take 8 (drop (64 + at) s)) → w2 ≡ le_nat (take 8 (drop (128 + at) s))
    → w3 ≡ le_nat (take 8 (drop (192 + at) s)) → ◌≡◌ {A = Xoshiro256pp} (record { s = w0 ∷ w1 ∷ w2 ∷ w3 ∷ [] }) (lane_in (fields layout s) i)
unfolding lane_in
lane_read s i h {at} e e0 e1 e2 e3 =
    let a = field s i at (omega arith) (omega arith) e0 in
    let b = field s (8 + i) (64 + at) (omega arith) (omega arith) e1 in
    let c = field s (16 + i) (128 + at) (omega arith) (omega arith) e2 in
    let d = field s (24 + i) (192 + at) (omega arith) (omega arith) e3 in
    λ j. record { s = a j ∷ b j ∷ c j ∷ d j ∷ [] }

-- ---- what load answers, by the test of the length
module _ (s : List ℕ) where
  pub load-long : length s ≡ 256 → {r : Answer Xoshiro256ppX8} {lanes : List Xoshiro256pp} → r ≡ from_lanes lanes → lanes ≡ table 8 (lane_in (fields layout s)) → r ≡ loaded s
  unfolding loaded
  load-long e er el = er ∙ ap from_lanes el ∙ ap (λ (b : Bool). cond b (from_lanes (table 8 (lane_in (fields layout s)))) (record { refusal = 1; value = blank8 })) (sym (eq-eqb (length s) 256 e))

  pub load_short : (length s ≡ 256 → ⊥) → ◌≡◌ {A = Answer Xoshiro256ppX8} (record { refusal = 1; value = blank8 }) (loaded s)
  unfolding loaded
  load_short h = ap (λ (b : Bool). cond b (from_lanes (table 8 (lane_in (fields layout s)))) (record { refusal = 1; value = blank8 })) (sym (ne_eqb (length s) 256 h))

-- ---- a generator from its fields, and back
abbrev pub of_fields : List ℕ → Xoshiro256ppX8
of_fields f = of_states (λ i. state_of (lane_in f i))

fields-of : (f : List ℕ) → length f ≡ 32 → fields_of (of_fields f) ≡ f
unfolding rows_of lane_in table
fields-of f e = table-get_or 32 0 f e

of-fields : (g : Xoshiro256ppX8) → Eights g → of_fields (fields_of g) ≡ g
unfolding rows_of lane_in table
of-fields g w =
    λ k. record {
      s0 = table-get_or 8 0 g.s0 w.row0 k;
      s1 = table-get_or 8 0 g.s1 w.row1 k;
      s2 = table-get_or 8 0 g.s2 w.row2 k;
      s3 = table-get_or 8 0 g.s3 w.row3 k;
    }

fits : (g : Xoshiro256ppX8) → Words g → Fits layout (fields_of g)
unfolding column table
fits g w =
    let below : (l : List ℕ) → ((i : ℕ) → i < 8 → get_or l i 0 < 2 ^ 64) → (i : ℕ) → get_or (row l) i 0 < 2 ^ 64 = λ l h. table_below (2 ^ 64) 8 (λ i. get_or l i 0) (pow_pos 64) h in
    let h0 = below g.s0 (λ i l. (w.lanes i l).w0) in
    let h1 = below g.s1 (λ i l. (w.lanes i l).w1) in
    let h2 = below g.s2 (λ i l. (w.lanes i l).w2) in
    let h3 = below g.s3 (λ i l. (w.lanes i l).w3) in
    let two = append-below (2 ^ 64) (row g.s0) (row g.s1) h0 h1 in
    let three = append-below (2 ^ 64) (row g.s0 ++ row g.s1) (row g.s2) two h2 in
    fits_run 8 (fields_of g) (append-below (2 ^ 64) (row g.s0 ++ row g.s1 ++ row g.s2) (row g.s3) three h3)

-- what is read from a generator's form is the generator; what is laid out from a form's fields is the form
pub read_saved : (g : Xoshiro256ppX8) → Words g → of_fields (fields layout (form_of g)) ≡ g
unfolding form_of
read_saved g w = ap of_fields (fields_laid layout (fields_of g) (fits g w)) ∙ of-fields g w.eights

pub saved_read : (s : List ℕ) → Bytes s → length s ≡ 256 → form_of (of_fields (fields layout s)) ≡ s
unfolding form_of fields_at
saved_read s b e = ap (laid_out layout) (fields-of (fields layout s) refl) ∙ laid_fields layout s e b

-- ---- a form of 256 bytes is accepted exactly when no lane is zero
abbrev pub lane_zero : List ℕ → ℕ → Bool
lane_zero s i = all_zero (state_of (lane_in (fields layout s) i))

-- of the generator that is read, the same lanes are zero
pub lane_zero_lem : (s : List ℕ) (i : ℕ) → i < 8 → all_zero (lane_of (of_fields (fields layout s)) i) ≡ lane_zero s i
unfolding rows_of
lane_zero_lem s i h = ap all_zero (column-rows_of (λ j. state_of (lane_in (fields layout s) j)) i h)

abbrev valid_in : List ℕ → Bool
valid_in s = every is_valid (table 8 (lane_in (fields layout s)))

abbrev answer : List ℕ → Bool → Answer Xoshiro256ppX8
answer s b = cond b (record { refusal = 0; value = of_fields (fields layout s) }) (record { refusal = 3; value = blank8 })

module _ (s : List ℕ) (long : length s ≡ 256) where
  answered : {b : Bool} → valid_in s ≡ b → loaded s ≡ answer s b
  unfolding from_lanes of_lanes rows_of table
  answered e = sym (load-long s long refl refl) ∙ ap (answer s) e

  pub load_valid : ((i : ℕ) → i < 8 → lane_zero s i ≡ false) → loaded s ≡ record { refusal = 0; value = of_fields (fields layout s) }
  unfolding is_valid
  load_valid h = answered (all_pass is_valid 8 (lane_in (fields layout s)) (λ i l. ap not (h i l)))

  pub load-zero : (i : ℕ) → i < 8 → lane_zero s i ≡ true → loaded s ≡ record { refusal = 3; value = blank8 }
  unfolding is_valid
  load-zero i l e = answered (one_fails is_valid 8 (lane_in (fields layout s)) i l (ap not e))

pub record Accepted (s : List ℕ) : Type 0 where
  pub long : length s ≡ 256
  pub valid : (i : ℕ) → i < 8 → lane_zero s i ≡ false
  pub holds : (loaded s).value ≡ of_fields (fields layout s)

pub load-accepted : (s : List ℕ) → (loaded s).refusal ≡ 0 → Accepted s
unfolding is_valid
load-accepted s ok = elim (ℕ_discrete (length s) 256) [
  | yes e ↦ go e (valid_in s) refl
  | no q ↦ let one = ap (λ (r : Answer Xoshiro256ppX8). r.refusal) (load_short s q) in absurd (omega arith)
]
  where
    go : length s ≡ 256 → (b : Bool) → valid_in s ≡ b → Accepted s
    go e true v =
        record {
          long = e;
          valid = λ i l. not-true (lane_zero s i) (each_passes is_valid 8 (lane_in (fields layout s)) v i l);
          holds = ap (λ (r : Answer Xoshiro256ppX8). r.value) (answered s e v);
        }
    go e false v = let three = ap (λ (r : Answer Xoshiro256ppX8). r.refusal) (answered s e v) in absurd (omega arith)
