-- The saved form of a Philox generator (the scope document, "Saved forms and the host", as request K6 changed it).
use Rattle.std.specs.Prelude.{ℕ, ◌+◌, Bool, false, cond, not, ◌&&◌, ◌||◌, List, [], ◌∷◌, ◌++◌, length, replicate, ◌==◌, nat_eq, slice_index}
use Rattle.base.specs.Every.{every}
use Rattle.base.specs.Refusal.{Answer}
use Rattle.base.specs.Table.{table}
use Rattle.saved.specs.fields.Fields.{size_of, laid_out, fields}
use Rattle.philox.specs.x8.Machine.{upper_at, none8}
use Rattle.philox.specs.declared.x8.Philox4x32X8.{Philox4x32X8}

-- key 4 + 4, stream 8, counter 8, mark 8, waiting words 64, the first block of their group 8
abbrev pub layout : List ℕ
layout = 4 ∷ 4 ∷ 8 ∷ 8 ∷ 8 ∷ replicate 9 8

-- the words that wait, zeros if none do
abbrev pub waiting_of : Philox4x32X8 → List ℕ
waiting_of g = cond g.waiting (table 8 (λ i. slice_index g.pending i)) none8

-- the number of their group, 0 if none do
abbrev pub number_of : Philox4x32X8 → ℕ
number_of g = cond g.waiting g.first 0

-- the mark is 1 if words wait, else 0
abbrev pub fields_of : Philox4x32X8 → List ℕ
fields_of g =
    slice_index g.key 0 ∷ slice_index g.key 1 ∷ g.stream ∷ g.counter ∷ cond g.waiting 1 0 ∷ (waiting_of g ++ (number_of g ∷ []))

unfoldable pub form_of : Philox4x32X8 → List ℕ
form_of g = laid_out layout (fields_of g)

-- ---- load, first what the bytes say by themselves
abbrev pub counter_in : List ℕ → ℕ
counter_in f = slice_index f 3

abbrev pub mark_in : List ℕ → ℕ
mark_in f = slice_index f 4

abbrev pub waiting_in : List ℕ → List ℕ
waiting_in f = table 8 (λ i. slice_index f (5 + i))

abbrev pub number_in : List ℕ → ℕ
number_in f = slice_index f 13

abbrev pub of_fields : List ℕ → Philox4x32X8
of_fields f =
    record {
      key = slice_index f 0 ∷ slice_index f 1 ∷ [];
      stream = slice_index f 2;
      counter = counter_in f;
      waiting = (mark_in f == 1);
      pending = waiting_in f;
      first = number_in f;
    }

-- the mark is 1; or it is 0, and the words that would wait and the number are zero
unfoldable pub is_form : ℕ → List ℕ → ℕ → Bool
is_form mark pending number = mark == 1 || (mark == 0 && every (λ x. nat_eq x 0) pending && number == 0)

-- a refusal has zero bits
abbrev pub blank : Philox4x32X8
blank = record { key = 0 ∷ 0 ∷ []; stream = 0; counter = 0; waiting = false; pending = none8; first = 0 }

abbrev pub refused : ℕ → Answer Philox4x32X8
refused n = record { refusal = n; value = blank }

unfoldable pub of_form : List ℕ → Answer Philox4x32X8
of_form f = cond (is_form (mark_in f) (waiting_in f) (number_in f)) (record { refusal = 0; value = of_fields f }) (refused 2)

-- another length is refused with 1; then another mark than 0 or 1, or mark 0 with a word that would wait or a number, with 2
unfoldable pub parsed : List ℕ → Answer Philox4x32X8
parsed s = cond (length s == size_of layout) (of_form (fields layout s)) (refused 1)

-- ---- then whether the words that wait, if any do, are the upper words of the numbered group
unfoldable pub is_numbered : Philox4x32X8 → Bool
is_numbered g = not g.waiting || every (λ i. nat_eq (slice_index g.pending i) (slice_index (upper_at g g.first) i)) (table 8 (λ i. i))

-- other words are refused with 14 (where a form is refused already, none wait)
unfoldable pub loaded : List ℕ → Answer Philox4x32X8
loaded s = cond (is_numbered (parsed s).value) (parsed s) (refused 14)
