-- Moving a form of 96 bytes, which has no number, to one of 104, and back (request K6).
use Rattle.std.specs.Prelude.{ℕ, ◌+◌, ◌-◌, ◌%◌, ◌^◌, cond, List, ◌∷◌, ◌++◌, take, replicate, ◌==◌}
use Rattle.base.specs.Bytes.{le_bytes}
use Rattle.base.specs.Refused.{unless}
use Rattle.saved.specs.fields.Fields.{size_of, fields}
use Rattle.saved.specs.fields.Saved.{length_refusal, Written}
use Rattle.saved.specs.philox4x32.Form.{layout, counter_in, mark_in, loaded}

-- key 4 + 4, stream 8, counter 8, mark 8, waiting words 64
abbrev pub layout96 : List ℕ
layout96 = 4 ∷ 4 ∷ 8 ∷ 8 ∷ 8 ∷ replicate 8 8

-- if words wait, the number is counter - 8 modulo 2 ^ 64
abbrev pub number_for : List ℕ → ℕ
number_for f = cond (mark_in f == 1) ((counter_in f + (2 ^ 64 - 8)) % 2 ^ 64) 0

-- from 96 bytes: the number is put last; to 96 bytes: it is dropped
abbrev pub with_number : List ℕ → List ℕ
with_number old = old ++ le_bytes 8 (number_for (fields layout96 old))

abbrev pub without_number : List ℕ → List ℕ
without_number form = take (size_of layout96) form

-- Moving `old` into the slice `form` is refused with 1 where that slice has another length than 104; else as loading refuses the form with
-- its number: 1 (`old` has another length than 96), 2 and 14.
abbrev pub from_refusal : List ℕ → List ℕ → ℕ
from_refusal old form = unless (length_refusal (size_of layout) form) (loaded (with_number old)).refusal 1

abbrev pub From96 : List ℕ → List ℕ → List ℕ → ℕ → Type 0
From96 old form = Written (from_refusal old form) (with_number old) form

-- Moving `form` into the slice `old` is refused with 1 where that slice has another length than 96; else as loading refuses `form`.
abbrev pub to_refusal : List ℕ → List ℕ → ℕ
to_refusal form old = unless (length_refusal (size_of layout96) old) (loaded form).refusal 1

abbrev pub To96 : List ℕ → List ℕ → List ℕ → ℕ → Type 0
To96 form old = Written (to_refusal form old) (without_number form) old
