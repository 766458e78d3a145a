-- The form of a Philox generator as it is stored and read, which forms are accepted, and both round trips. Assumes nothing.
use Rattle.std.proofs.Common.{◌≡◌, ℕ, zero, suc, ◌+◌, ◌*◌, ◌/◌, ◌%◌, ◌^◌, ◌<◌, Bool, true, false, cond, not, ◌&&◌, ◌||◌, eqb, List, [], ◌∷◌, ◌++◌, length, get_or, take, drop, replicate, sym, refl, ap, ◌∙◌, ap₂, true≢false, arith, lit<, length-append, pow_pos, eq-eqb, ne_eqb, eqb-true}
use native.Mathlib.Decide.{ℕ_discrete}
use borrow.Author.Tests.{not-true, not-false}
use Rattle.base.specs.Bytes.{le_bytes, le_nat, flat}
use Rattle.base.specs.Every.{every}
use Rattle.base.specs.Refusal.{Answer}
use Rattle.base.specs.Stored.{stored}
use Rattle.base.specs.Table.{table}
use Rattle.base.proofs.Bytes.{length-le_bytes, flat-length, flat_append}
use Rattle.base.proofs.Stored.{stored-two, stored-whole}
use Rattle.base.proofs.Table.{length-table, table-get_or, table_same}
use Rattle.saved.specs.fields.Fields.{laid_out, fields_at, fields}
use Rattle.saved.proofs.fields.Bounds.{table_below, append-below, fits_run}
use Rattle.saved.proofs.fields.Fields.{Bytes, Fits, laid_run, length_laid, fields_laid, laid_fields}
use lib.Pointwise.{pointwise}
use Rattle.std.specs.Int.{from_bool}
use Rattle.saved.proofs.fields.Tests.{and_both, all_pass, one_fails, each_passes, same_tested}
use Rattle.philox.specs.x8.Claims.{Numbered}
use Rattle.philox.specs.x8.Machine.{upper_at, none8, sought}
use Rattle.philox.specs.declared.x8.Philox4x32X8.{Philox4x32X8}
use Rattle.saved.specs.philox4x32.Claims.{Words, settled}
use Rattle.saved.specs.philox4x32.Form.{layout, waiting_of, number_of, fields_of, form_of, mark_in, waiting_in, number_in}
use Rattle.saved.specs.philox4x32.Form.{of_fields, is_form, refused, of_form, parsed, is_numbered, loaded}

-- the words that are saved, where words wait or not
abbrev waiting_by : Philox4x32X8 → Bool → List ℕ
waiting_by g b = cond b (table 8 (λ i. get_or g.pending i 0)) none8

waiting_long : (g : Philox4x32X8) → length (waiting_of g) ≡ 8
unfolding table
waiting_long g = go g.waiting
  where
    go : (b : Bool) → length (waiting_by g b) ≡ 8
    go true = refl
    go false = refl

kept-long : (g : Philox4x32X8) → length (waiting_of g ++ (number_of g ∷ [])) ≡ 9
kept-long g = length-append (waiting_of g) (number_of g ∷ []) ∙ ap (λ (n : ℕ). n + 1) (waiting_long g)

pub form-length : (g : Philox4x32X8) → length (form_of g) ≡ 104
unfolding form_of
form-length g = length_laid layout (fields_of g) (ap (λ (n : ℕ). suc (suc (suc (suc (suc n))))) (kept-long g))

-- the words that wait are eight
pub waiting_words : (g : Philox4x32X8) → g.waiting ≡ true → length g.pending ≡ 8 → g.pending ≡ waiting_of g
waiting_words g e l = sym (table-get_or 8 0 g.pending l) ∙ ap (waiting_by g) (sym e)

-- ---- stored: thirteen words of eight bytes
form-words : (g : Philox4x32X8) (key : ℕ) → le_bytes 8 key ≡ le_bytes 4 (get_or g.key 0 0) ++ le_bytes 4 (get_or g.key 1 0)
    → le_bytes 8 key ++ le_bytes 8 g.stream ++ le_bytes 8 g.counter ++ le_bytes 8 (cond g.waiting 1 0) ++ flat (le_bytes 8)
    (waiting_of g)
    ++ le_bytes 8 (number_of g) ≡ form_of g
unfolding form_of laid_out flat
form-words g key e =
    let kept : List ℕ = waiting_of g ++ (number_of g ∷ []) in
    let apart : flat (le_bytes 8) kept ≡ flat (le_bytes 8) (waiting_of g) ++ le_bytes 8 (number_of g) = flat_append (le_bytes 8) (waiting_of g)
    (number_of g ∷ []) in
    let rest : flat (le_bytes 8) (waiting_of g) ++ le_bytes 8 (number_of g) ≡ laid_out (replicate 9 8) kept =
    sym apart ∙ sym (laid_run 8 kept) ∙ ap (λ (n : ℕ). laid_out (replicate n 8) kept) (kept-long g) in
    ap₂ (λ (k w : List ℕ). k ++ le_bytes 8 g.stream ++ le_bytes 8 g.counter ++ le_bytes 8 (cond g.waiting 1 0) ++ w) e rest

-- the mark is the number of the test whether words wait
pub marked : (b : Bool) → from_bool b ≡ cond b 1 0
marked true = refl
marked false = refl

pub words-stored : (g : Philox4x32X8) (l : List ℕ) → length l ≡ 104 → (key : ℕ) {mark number : ℕ} {ws l1 l2 l3 l4 l5 out : List ℕ}
    → le_bytes 8 key ≡ le_bytes 4 (get_or g.key 0 0) ++ le_bytes 4 (get_or g.key 1 0)
    → mark ≡ cond g.waiting 1 0 → ws ≡ waiting_of g → number ≡ number_of g
    → l1 ≡ stored l 0 (le_bytes 8 key) → l2 ≡ stored l1 8 (le_bytes 8 g.stream) → l3 ≡ stored l2 16 (le_bytes 8 g.counter)
    → l4 ≡ stored l3 24 (le_bytes 8 mark) → l5 ≡ stored l4 32 (flat (le_bytes 8) ws) → out ≡ stored l5 96 (le_bytes 8 number) → out ≡ form_of g
words-stored g l e key {mark} {number} {ws} {l1} {l2} {l3} {l4} {l5} ek em ew en e1 e2 e3 e4 e5 e6 =
    let K = le_bytes 8 key in
    let S = le_bytes 8 g.stream in
    let C = le_bytes 8 g.counter in
    let M = le_bytes 8 (cond g.waiting 1 0) in
    let W = flat (le_bytes 8) (waiting_of g) in
    let two : l2 ≡ stored l 0 (K ++ S) = stored-two l 0 K S e1 refl e2 in
    let three : l3 ≡ stored l 0 (K ++ S ++ C) = stored-two l 0 (K ++ S) C two refl e3 in
    let four : l4 ≡ stored l 0 (K ++ S ++ C ++ M) = stored-two l 0 (K ++ S ++ C) M three refl (e4 ∙ ap (λ (m : ℕ). stored l3 24 (le_bytes 8 m)) em) in
    let five : l5 ≡ stored l 0 (K ++ S ++ C ++ M ++ W) = stored-two l 0 (K ++ S ++ C ++ M) W four refl
    (e5 ∙ ap (λ (w : List ℕ). stored l4 32 (flat (le_bytes 8) w)) ew) in
    let wide : length W ≡ 64 = flat-length (le_bytes 8) 8 (length-le_bytes 8) (waiting_of g) ∙ ap (λ (n : ℕ). n * 8) (waiting_long g) in
    let here : 0 + length (K ++ S ++ C ++ M ++ W) ≡ 96 = omega (arith, length-append (K ++ S ++ C ++ M) W, wide) in
    let six = stored-two l 0 (K ++ S ++ C ++ M ++ W) (le_bytes 8 (number_of g)) five here
    (e6 ∙ ap (λ (n : ℕ). stored l5 96 (le_bytes 8 n)) en) in
    six ∙ ap (stored l 0) (form-words g key ek) ∙ stored-whole l (form_of g) (e ∙ sym (form-length g))

-- ---- read
-- the words that would wait stand 8 bytes apart, from place 32 on
pub waiting_read : (s : List ℕ) → table 8 (λ i. le_nat (take 8 (drop (32 + i * 8) s))) ≡ waiting_in (fields layout s)
unfolding table fields_at
waiting_read s = refl

-- the key's halves are the halves of the first word
halves : (a b : ℕ) → a < 2 ^ 32 → ((a + 2 ^ 32 * b) % 2 ^ 32 ≡ a) × ((a + 2 ^ 32 * b) / 2 ^ 32 ≡ b)
halves a b h = (omega arith, omega arith)

pub key-read : (s : List ℕ) → ((i : ℕ) → get_or s i 0 < 256) → length s ≡ 104
    → (le_nat (take 8 (drop 0 s)) % 2 ^ 32 ≡ le_nat (take 4 (drop 0 s))) × (le_nat (take 8 (drop 0 s)) / 2 ^ 32 ≡ le_nat (take 4 (drop 4 s)))
key-read [] h e = absurd (omega arith)
key-read (a ∷ []) h e = absurd (omega arith)
key-read (a ∷ b ∷ []) h e = absurd (omega arith)
key-read (a ∷ b ∷ c ∷ []) h e = absurd (omega arith)
key-read (a ∷ b ∷ c ∷ d ∷ s) h e =
    let ha : a < 256 = h 0 in
    let hb : b < 256 = h 1 in
    let hc : c < 256 = h 2 in
    let hd : d < 256 = h 3 in
    (omega arith, omega arith)

-- ---- what parse answers, by the tests of the length and of the mark
module _ (s : List ℕ) where
  pub parse_short : (length s ≡ 104 → ⊥) → refused 1 ≡ parsed s
  unfolding parsed
  parse_short h = ap (λ (b : Bool). cond b (of_form (fields layout s)) (refused 1)) (sym (ne_eqb (length s) 104 h))

  parse_long : length s ≡ 104 → of_form (fields layout s) ≡ parsed s
  unfolding parsed
  parse_long e = ap (λ (b : Bool). cond b (of_form (fields layout s)) (refused 1)) (sym (eq-eqb (length s) 104 e))

  module _ (long : length s ≡ 104) {mark number : ℕ} {pending : List ℕ} {ok : Bool} (em : mark ≡ le_nat (take 8 (drop 24 s)))
      (ep : pending ≡ waiting_in (fields layout s)) (en : number ≡ le_nat (take 8 (drop 96 s))) (eo : ok ≡ is_form mark pending number) where
    test : ok ≡ is_form (mark_in (fields layout s)) (waiting_in (fields layout s)) (number_in (fields layout s))
    unfolding fields_at
    test = eo ∙ (λ i. is_form (em i) (ep i) (en i))

    pub parse_refused : not ok ≡ true → refused 2 ≡ parsed s
    unfolding of_form
    parse_refused h = ap (λ (b : Bool). cond b (record { refusal = 0; value = of_fields (fields layout s) }) (refused 2))
        (sym (not-true ok h) ∙ test) ∙ parse_long long

    pub parse_done : not ok ≡ false → ((i : ℕ) → get_or s i 0 < 256) → {seed lo hi stream counter : ℕ} {waiting : Bool}
        → seed ≡ le_nat (take 8 (drop 0 s)) → lo ≡ seed % 2 ^ 32 → hi ≡ seed / 2 ^ 32
        → stream ≡ le_nat (take 8 (drop 8 s)) → counter ≡ le_nat (take 8 (drop 16 s)) → waiting ≡ eqb mark 1
        → ◌≡◌ {A = Answer Philox4x32X8} (record {
          refusal = 0;
          value =
              record { key = lo ∷ hi ∷ []; stream = stream; counter = counter; waiting = waiting; pending = pending; first = number };
        })
        (parsed s)
    unfolding of_form fields_at
    parse_done h bytes es el eh et ec ew =
        let k = key-read s bytes long in
        let a = el ∙ ap (λ (x : ℕ). x % 2 ^ 32) es ∙ k.0 in
        let b = eh ∙ ap (λ (x : ℕ). x / 2 ^ 32) es ∙ k.1 in
        let w = ew ∙ ap (λ (x : ℕ). eqb x 1) em in
        (λ i. record {
          refusal = 0;
          value =
              record { key = a i ∷ b i ∷ []; stream = et i; counter = ec i; waiting = w i; pending = ep i; first = en i };
        })
        ∙ ap (λ (b : Bool). cond b (record { refusal = 0; value = of_fields (fields layout s) }) (refused 2)) (sym (not-false ok h) ∙ test)
        ∙ parse_long long

-- ---- a generator from its fields, and back
-- a generator's fields, where words wait or not
abbrev fields_by : Philox4x32X8 → Bool → List ℕ
fields_by g b =
    get_or g.key 0 0 ∷ get_or g.key 1 0 ∷ g.stream ∷ g.counter ∷ cond b 1 0 ∷ (waiting_by g b ++ (cond b g.first 0 ∷ []))

pub zeros-below : (i : ℕ) → get_or none8 i 0 < 2 ^ 64
unfolding table
zeros-below = table_below (2 ^ 64) 8 (λ i. 0) (pow_pos 64) (λ i l. lit< tt)

fits : (g : Philox4x32X8) → Words g → Fits layout (fields_of g)
unfolding table
fits g w = (w.key 0, (w.key 1, (w.stream, (w.counter, go g.waiting))))
  where
    number : {n : ℕ} → n < 2 ^ 64 → (i : ℕ) → get_or (n ∷ []) i 0 < 2 ^ 64
    number h zero = h
    number h (suc i) = lit< tt

    kept : (b : Bool) → ((i : ℕ) → get_or (waiting_by g b) i 0 < 2 ^ 64) → cond b g.first 0 < 2 ^ 64
        → (i : ℕ) → get_or (waiting_by g b ++ (cond b g.first 0 ∷ [])) i 0 < 2 ^ 64
    kept b h n = append-below (2 ^ 64) (waiting_by g b) (cond b g.first 0 ∷ []) h (number n)

    go : (b : Bool) → Fits (8 ∷ replicate 9 8) (cond b 1 0 ∷ (waiting_by g b ++ (cond b g.first 0 ∷ [])))
    go true =
        let waits = table_below (2 ^ 64) 8 (λ i. get_or g.pending i 0) (pow_pos 64) (λ i l. w.pending i) in
        (lit< tt, fits_run 8 (waiting_by g true ++ (g.first ∷ [])) (kept true waits w.first))
    go false = (lit< tt, fits_run 8 (none8 ++ (0 ∷ [])) (kept false zeros-below (lit< tt)))

form-read : (g : Philox4x32X8) → Words g → of_form (fields_of g) ≡ record { refusal = 0; value = settled g }
unfolding of_form is_form table sought
form-read g w = go g.waiting
  where
    key : get_or g.key 0 0 ∷ get_or g.key 1 0 ∷ [] ≡ g.key
    key = table-get_or 2 0 g.key w.two

    pending : table 8 (λ i. get_or g.pending i 0) ≡ g.pending
    pending = table-get_or 8 0 g.pending w.eight

    holding : Bool → List ℕ → List ℕ → ℕ → Answer Philox4x32X8
    holding b k p n = record {
      refusal = 0;
      value =
          record { key = k; stream = g.stream; counter = g.counter; waiting = b; pending = p; first = n };
    }

    go : (b : Bool) → of_form (fields_by g b) ≡ record {
      refusal = 0;
      value = cond b (holding b g.key g.pending g.first).value
          (sought g g.counter);
    }
    go true = λ i. holding true (key i) (pending i) g.first
    go false = λ i. holding false (key i) none8 0

-- where the fields are a form's, the mark, the words and the number are those that are saved
pub record Kept (b : Bool) (m : ℕ) (f : ℕ → ℕ) (n : ℕ) : Type 0 where
  pub mark : cond b 1 0 ≡ m
  pub words : cond b (table 8 f) none8 ≡ table 8 f
  pub number : cond b n 0 ≡ n

pub mark_saved : (m : ℕ) (f : ℕ → ℕ) (n : ℕ) → is_form m (table 8 f) n ≡ true → Kept (eqb m 1) m f n
unfolding is_form table
mark_saved m f n h = go (eqb m 1) refl h
  where
    go : (b : Bool) → eqb m 1 ≡ b → b || (eqb m 0 && every (λ x. eqb x 0) (table 8 f) && eqb n 0) ≡ true → Kept b m f n
    go true e h = record { mark = sym (eqb-true m 1 e); words = refl; number = refl }
    go false e h =
        let last = and_both (eqb m 0 && every (λ x. eqb x 0) (table 8 f)) (eqb n 0) h in
        let both = and_both (eqb m 0) _ last.0 in
        let zero : (i : ℕ) → i < 8 → 0 ≡ f i = λ i l. sym (eqb-true (f i) 0 (each_passes (λ x. eqb x 0) 8 f both.1 i l)) in
        record { mark = sym (eqb-true m 0 both.0); words = table_same 8 (λ i. 0) f zero; number = sym (eqb-true n 0 last.1) }

fields-of : (f : List ℕ) → length f ≡ 14 → is_form (mark_in f) (waiting_in f) (number_in f) ≡ true → fields_of (of_fields f) ≡ f
unfolding table
fields-of f e h =
    let k = mark_saved (mark_in f) (λ i. get_or f (5 + i) 0) (number_in f) h in
    (λ i. get_or f 0 0 ∷ get_or f 1 0 ∷ get_or f 2 0 ∷ get_or f 3 0 ∷ k.mark i ∷ (k.words i ++ (k.number i ∷ []))) ∙ table-get_or 14 0 f e

-- ---- a form of 104 bytes is parsed exactly when the mark, the words that would wait and the number are a form's
abbrev pub form_in : List ℕ → Bool
form_in s = is_form (mark_in (fields layout s)) (waiting_in (fields layout s)) (number_in (fields layout s))

abbrev answer : List ℕ → Bool → Answer Philox4x32X8
answer s b = cond b (record { refusal = 0; value = of_fields (fields layout s) }) (refused 2)

pub parse_answer : (s : List ℕ) → length s ≡ 104 → {b : Bool} → form_in s ≡ b → parsed s ≡ answer s b
unfolding of_form
parse_answer s long e = sym (parse_long s long) ∙ ap (answer s) e

-- ---- the words that wait are the upper words of the numbered group, or not
module _ (g : Philox4x32X8) where
  abbrev pub same : ℕ → Bool
  same i = eqb (get_or g.pending i 0) (get_or (upper_at g g.first) i 0)

  pub numbered_by : {b : Bool} → g.waiting ≡ b → is_numbered g ≡ not b || every same (table 8 (λ i. i))
  unfolding is_numbered
  numbered_by e = ap (λ (b : Bool). not b || every same (table 8 (λ i. i))) e

  pub none-waits : g.waiting ≡ false → is_numbered g ≡ true
  none-waits e = numbered_by e

  pub all_same : g.waiting ≡ true → ((i : ℕ) → i < 8 → get_or g.pending i 0 ≡ get_or (upper_at g g.first) i 0) → is_numbered g ≡ true
  all_same e h = numbered_by e ∙ all_pass same 8 (λ i. i) (λ i l. eq-eqb _ _ (h i l))

  pub one_other : g.waiting ≡ true → (i : ℕ) → i < 8 → (get_or g.pending i 0 ≡ get_or (upper_at g g.first) i 0 → ⊥) → is_numbered g ≡ false
  one_other e i l q = numbered_by e ∙ one_fails same 8 (λ i. i) i l (ne_eqb _ _ q)

  pub is-numbered : Numbered g → is_numbered g ≡ true
  is-numbered h = go g.waiting refl
    where
      go : (b : Bool) → g.waiting ≡ b → is_numbered g ≡ true
      go true e = all_same e (λ i l. ap (λ (x : List ℕ). get_or x i 0) (h e))
      go false e = none-waits e

  pub numbered_is : length g.pending ≡ 8 → is_numbered g ≡ true → Numbered g
  unfolding upper_at
  numbered_is long t w =
      let each = each_passes same 8 (λ i. i) (sym (numbered_by w) ∙ t) in
      sym (table-get_or 8 0 g.pending long)
      ∙ table_same 8 _ _ (λ i l. eqb-true _ _ (each i l))
      ∙ table-get_or 8 0 (upper_at g g.first) (length-table 8 _)

  -- the code compares the two as arrays
  pub compared : g.waiting ≡ true → length g.pending ≡ 8 → {upper : List ℕ} → upper ≡ upper_at g g.first
      → pointwise eqb g.pending upper ≡ is_numbered g
  unfolding upper_at
  compared w long e =
      ap (pointwise eqb g.pending) e
      ∙ same_tested 8 g.pending (upper_at g g.first) same (λ i. i) long (length-table 8 _) (λ i. refl) ∙ sym (numbered_by w)

-- ---- what load answers, by that test
-- what is parsed is a generator or a refusal
pub parsed_cases : (P : Answer Philox4x32X8 → Type 0) (s : List ℕ) → P (refused 1) → P (refused 2)
    → P (record { refusal = 0; value = of_fields (fields layout s) }) → P (parsed s)
unfolding parsed of_form
parsed_cases P s one two done = go (eqb (length s) 104) (form_in s)
  where
    go : (a b : Bool) → P (cond {A = Answer Philox4x32X8} a (answer s b) (refused 1))
    go true true = done
    go true false = two
    go false b = one

pub load_by : (s : List ℕ) {told : Answer Philox4x32X8} → told ≡ parsed s → {b ok : Bool} → ok ≡ is_numbered told.value → ok ≡ b
    → cond b told (refused 14) ≡ loaded s
unfolding loaded
load_by s et eo eb =
    (λ i. cond (sym eb i) (et i) (refused 14)) ∙ ap (λ (ok : Bool). cond ok (parsed s) (refused 14))
    (eo ∙ ap (λ (x : Answer Philox4x32X8). is_numbered x.value) et)

pub refused_as : (s : List ℕ) (n : ℕ) → refused n ≡ parsed s → refused n ≡ loaded s
refused_as s n e = load_by s e refl (none-waits (refused n).value refl)

-- what was parsed, by what is loaded
pub told : (s : List ℕ) {n : ℕ} → (loaded s).refusal ≡ n → (n ≡ 14 → ⊥) → (parsed s).refusal ≡ n
told s {n} e h = go (is_numbered (parsed s).value) refl
  where
    go : (b : Bool) → is_numbered (parsed s).value ≡ b → (parsed s).refusal ≡ n
    go true t = ap (λ (r : Answer Philox4x32X8). r.refusal) (load_by s refl refl t) ∙ e
    go false t = absurd (h (sym e ∙ ap (λ (r : Answer Philox4x32X8). r.refusal) (sym (load_by s refl refl t))))

pub told_14 : (s : List ℕ) → (loaded s).refusal ≡ 14 → (parsed s).refusal ≡ 0
told_14 s e = go (is_numbered (parsed s).value) refl
  where
    go : (b : Bool) → is_numbered (parsed s).value ≡ b → (parsed s).refusal ≡ 0
    go true t =
        parsed_cases (λ r. r.refusal ≡ 14 → r.refusal ≡ 0) s (λ q. absurd (omega arith)) (λ q. absurd (omega arith)) (λ q. refl)
        (ap (λ (r : Answer Philox4x32X8). r.refusal) (load_by s refl refl t) ∙ e)
    go false t =
        let waits : (n : ℕ) → is_numbered (refused n).value ≡ false → (refused n).refusal ≡ 0 = λ n q. absurd
        (true≢false (sym (none-waits (refused n).value refl) ∙ q)) in
        parsed_cases (λ r. is_numbered r.value ≡ false → r.refusal ≡ 0) s (waits 1) (waits 2) (λ q. refl) t

pub load_short : (s : List ℕ) → (length s ≡ 104 → ⊥) → refused 1 ≡ loaded s
load_short s h = refused_as s 1 (parse_short s h)

pub record Accepted (s : List ℕ) : Type 0 where
  pub long : length s ≡ 104
  pub form : form_in s ≡ true
  pub numbered : is_numbered (of_fields (fields layout s)) ≡ true
  pub holds : (loaded s).value ≡ of_fields (fields layout s)

pub load-accepted : (s : List ℕ) → (loaded s).refusal ≡ 0 → Accepted s
load-accepted s ok = elim (ℕ_discrete (length s) 104) [
  | yes e ↦ go e (form_in s) refl
  | no q ↦ absurd (refuses 0 (parse_short s q))
]
  where
    refuses : (n : ℕ) → refused (suc n) ≡ parsed s → ⊥
    refuses n e =
        let r = ap (λ (r : Answer Philox4x32X8). r.refusal) (refused_as s (suc n) e) in
        omega arith

    numbers : length s ≡ 104 → form_in s ≡ true → (b : Bool) → is_numbered (of_fields (fields layout s)) ≡ b → Accepted s
    numbers e f true n =
        record { long = e; form = f; numbered = n; holds = ap (λ (r : Answer Philox4x32X8). r.value) (sym (load_by s (sym (parse_answer s e f)) refl n)) }
    numbers e f false n =
        let other = ap (λ (r : Answer Philox4x32X8). r.refusal) (load_by s (sym (parse_answer s e f)) refl n) in
        absurd (omega arith)

    go : length s ≡ 104 → (b : Bool) → form_in s ≡ b → Accepted s
    go e true f = numbers e f (is_numbered (of_fields (fields layout s))) refl
    go e false f = absurd (refuses 1 (sym (parse_answer s e f)))

-- ---- both round trips
-- what is laid out from a form's fields is the form
pub saved_read : (s : List ℕ) → Bytes s → length s ≡ 104 → form_in s ≡ true → form_of (of_fields (fields layout s)) ≡ s
unfolding form_of fields_at
saved_read s b e h = ap (laid_out layout) (fields-of (fields layout s) refl h) ∙ laid_fields layout s e b

-- what is read from a generator's form is the generator
parse_saved : (g : Philox4x32X8) → Words g → parsed (form_of g) ≡ record { refusal = 0; value = settled g }
unfolding form_of
parse_saved g w = sym (parse_long (form_of g) (form-length g)) ∙ ap of_form (fields_laid layout (fields_of g) (fits g w)) ∙ form-read g w

numbered-settled : (g : Philox4x32X8) → Numbered g → Numbered (settled g)
unfolding sought
numbered-settled g h = go g.waiting
  where
    go : (b : Bool) → Numbered (cond b g (sought g g.counter))
    go true = h
    go false = λ w. absurd (true≢false (sym w))

pub read_saved : (g : Philox4x32X8) → Words g → Numbered g → loaded (form_of g) ≡ record { refusal = 0; value = settled g }
read_saved g w h = sym (load_by (form_of g) (sym (parse_saved g w)) refl (is-numbered (settled g) (numbered-settled g h)))
