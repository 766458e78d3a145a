-- The claims of specs/philox4x32/Claims.antt. Assumes nothing.
use Rattle.std.proofs.Common.{◌≡◌, ℕ, ◌+◌, ◌<◌, Bool, true, false, cond, ◌&&◌, ◌||◌, eqb, List, length, get_or, sym, refl, ap, ◌∙◌, true≢false, eq-eqb, ne_eqb}
use mathlib.Core.Bool.{and-false}
use Rattle.base.specs.Every.{every}
use Rattle.base.specs.Refusal.{Answer}
use Rattle.base.proofs.Table.{length-table, get_or-table}
use Rattle.saved.specs.fields.Fields.{fields}
use Rattle.saved.proofs.fields.Tests.{all_pass, one_fails}
use Rattle.philox.specs.x8.Claims.{Numbered}
use Rattle.philox.specs.declared.x8.Philox4x32X8.{Philox4x32X8}
use Rattle.saved.specs.philox4x32.Claims.{FormLength, LoadSaved, LoadNumbered, SaveLoaded, Refusals, MovedBack}
use Rattle.saved.specs.philox4x32.Form.{layout, form_of, mark_in, waiting_in, number_in}
use Rattle.saved.specs.philox4x32.Form.{of_fields, is_form, refused, parsed, is_numbered, loaded}
use Rattle.saved.proofs.philox4x32.Form.{form-length as long, read_saved, saved_read, parse_short, parse_answer}
use Rattle.saved.proofs.philox4x32.Moves.{back}
use Rattle.saved.proofs.philox4x32.Form.{none-waits, all_same, one_other, numbered_is}
use Rattle.saved.proofs.philox4x32.Form.{parsed_cases, load_by, refused_as, load-accepted}

pub form-length : FormLength
form-length = long

pub load_saved : LoadSaved
load_saved = read_saved

pub load-numbered : LoadNumbered
unfolding loaded
load-numbered s = go (is_numbered (parsed s).value) refl
  where
    go : (b : Bool) → is_numbered (parsed s).value ≡ b → Numbered (cond {A = Answer Philox4x32X8} b (parsed s) (refused 14)).value
    go true e = numbered_is (parsed s).value (parsed_cases (λ r. length r.value.pending ≡ 8) s refl refl (length-table 8 _)) e
    go false e = λ w. absurd (true≢false (sym w))

pub save-loaded : SaveLoaded
save-loaded s b ok = let a = load-accepted s ok in ap form_of a.holds ∙ saved_read s b a.long a.form

pub moved_back : MovedBack
moved_back = back

-- a form, by the tests of its mark, of the words that would wait and of the number
form_by : (m : ℕ) (p : List ℕ) (n : ℕ) {a b c d : Bool} → eqb m 1 ≡ a → eqb m 0 ≡ b → every (λ x. eqb x 0) p ≡ c → eqb n 0 ≡ d
    → is_form m p n ≡ a || (b && c && d)
unfolding is_form
form_by m p n ea eb ec ed = λ i. ea i || (eb i && ec i && ed i)

pub refusals : Refusals
refusals s =
    record {
      one = λ q. refused_with (sym (parse_short s q));
      unmarked = λ e m h z.
          accepted e (form_by mark waiting number (ap (λ (k : ℕ). eqb k 1) m) (eq-eqb mark 0 m) (no_word h) (eq-eqb number 0 z))
          (none-waits (of_fields f) (ap (λ (k : ℕ). eqb k 1) m));
      marked = λ e m h. accepted e (is-marked m) (all_same (of_fields f) (eq-eqb mark 1 m) h);
      two = λ e a b. refused_with (parse_answer s e (form_by mark waiting number (ne_eqb mark 1 a) (ne_eqb mark 0 b) refl refl));
      two_waiting = λ e m i l q.
          refused_with (parse_answer s e (form_by mark waiting number (ap (λ (k : ℕ). eqb k 1) m) (eq-eqb mark 0 m)
          (some_word i l q) refl));
      two_number = λ e m q.
          refused_with (parse_answer s e (unmarked-number m q));
      fourteen = λ e m i l q. ap (λ (r : Answer Philox4x32X8). r.refusal) (sym (load_by s (sym (parse_answer s e (is-marked m))) refl
          (one_other (of_fields f) (eq-eqb mark 1 m) i l q)));
    }
  where
    f : List ℕ
    f = fields layout s

    mark : ℕ
    mark = mark_in f

    waiting : List ℕ
    waiting = waiting_in f

    number : ℕ
    number = number_in f

    word : ℕ → ℕ
    word i = get_or f (5 + i) 0

    at : (i : ℕ) → i < 8 → get_or waiting i 0 ≡ word i
    at i l = get_or-table 8 word i 0 l

    no_word : ((i : ℕ) → i < 8 → get_or waiting i 0 ≡ 0) → every (λ x. eqb x 0) waiting ≡ true
    no_word h = all_pass (λ x. eqb x 0) 8 word (λ i l. eq-eqb (word i) 0 (sym (at i l) ∙ h i l))

    some_word : (i : ℕ) → i < 8 → (get_or waiting i 0 ≡ 0 → ⊥) → every (λ x. eqb x 0) waiting ≡ false
    some_word i l q = one_fails (λ x. eqb x 0) 8 word i l (ne_eqb (word i) 0 (λ z. q (at i l ∙ z)))

    is-marked : mark ≡ 1 → is_form mark waiting number ≡ true
    is-marked m = form_by mark waiting number (eq-eqb mark 1 m) refl refl refl

    unmarked-number : mark ≡ 0 → (number ≡ 0 → ⊥) → is_form mark waiting number ≡ false
    unmarked-number m q =
        form_by mark waiting number (ap (λ (k : ℕ). eqb k 1) m) (eq-eqb mark 0 m) refl (ne_eqb number 0 q)
        ∙ and-false (every (λ x. eqb x 0) waiting)

    -- a form that is parsed is accepted where its words are its group's; one that isn't is refused so
    accepted : length s ≡ 104 → is_form mark waiting number ≡ true → is_numbered (of_fields f) ≡ true → (loaded s).refusal ≡ 0
    accepted e i n = ap (λ (r : Answer Philox4x32X8). r.refusal) (sym (load_by s (sym (parse_answer s e i)) refl n))

    refused_with : {n : ℕ} → parsed s ≡ refused n → (loaded s).refusal ≡ n
    refused_with {n} e = ap (λ (r : Answer Philox4x32X8). r.refusal) (sym (refused_as s n (sym e)))
