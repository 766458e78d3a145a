-- Words and numbers among a program's arguments. An argument stands in an array of zeros that is longer than it, so that a 0 ends it.
use Rattle.std.specs.Prelude.{Bool, true, false, ◌&&◌, List, [], ◌∷◌, ℕ, eqb, Option, Some, None}
use Rattle.text.specs.decimal.Number.{number_at}
use Rattle.text.specs.declared.decimal.Number.{Number}

-- whether a text starts with a word
unfoldable pub starts_with : List ℕ → List ℕ → Bool
starts_with [] s = true
starts_with (x ∷ xs) [] = false
starts_with (x ∷ xs) (y ∷ ys) = eqb x y && starts_with xs ys

-- the words in ASCII, each with the 0 that ends it: the engines' names, the kinds' names, raw
abbrev pub xoshiro : List ℕ
xoshiro = 120 ∷ 111 ∷ 115 ∷ 104 ∷ 105 ∷ 114 ∷ 111 ∷ 0 ∷ []

abbrev pub philox : List ℕ
philox = 112 ∷ 104 ∷ 105 ∷ 108 ∷ 111 ∷ 120 ∷ 0 ∷ []

abbrev pub u64 : List ℕ
u64 = 117 ∷ 54 ∷ 52 ∷ 0 ∷ []

abbrev pub u32 : List ℕ
u32 = 117 ∷ 51 ∷ 50 ∷ 0 ∷ []

abbrev pub f32 : List ℕ
f32 = 102 ∷ 51 ∷ 50 ∷ 0 ∷ []

abbrev pub f64 : List ℕ
f64 = 102 ∷ 54 ∷ 52 ∷ 0 ∷ []

-- normal_f32, normal_f64
abbrev pub normal_f32 : List ℕ
normal_f32 = 110 ∷ 111 ∷ 114 ∷ 109 ∷ 97 ∷ 108 ∷ 95 ∷ 102 ∷ 51 ∷ 50 ∷ 0 ∷ []

abbrev pub normal_f64 : List ℕ
normal_f64 = 110 ∷ 111 ∷ 114 ∷ 109 ∷ 97 ∷ 108 ∷ 95 ∷ 102 ∷ 54 ∷ 52 ∷ 0 ∷ []

-- open01_f32, open01_f64
abbrev pub open01_f32 : List ℕ
open01_f32 = 111 ∷ 112 ∷ 101 ∷ 110 ∷ 48 ∷ 49 ∷ 95 ∷ 102 ∷ 51 ∷ 50 ∷ 0 ∷ []

abbrev pub open01_f64 : List ℕ
open01_f64 = 111 ∷ 112 ∷ 101 ∷ 110 ∷ 48 ∷ 49 ∷ 95 ∷ 102 ∷ 54 ∷ 52 ∷ 0 ∷ []

abbrev pub raw : List ℕ
raw = 114 ∷ 97 ∷ 119 ∷ 0 ∷ []

-- of a number that was read: f of it, or `none`
abbrev pub found : {A : Type 0} → A → (ℕ → A) → Option Number → A
found none f (Some n) = f n.value
found none f None = none

-- of the number that a text is, at most top
abbrev pub number : {A : Type 0} → (top : ℕ) → List ℕ → A → (ℕ → A) → A
number top s none f = found none f (number_at top 0 s 0)
