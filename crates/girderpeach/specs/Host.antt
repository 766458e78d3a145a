-- What a host's calls promise, on any engine: the answer, and every lent buffer at the return, by equations (the scope document, "Saved forms and
-- the host", "What the calls refuse").
use Rattle.std.specs.Prelude.{List, ◌≡◌, ℕ, zero, suc, ℤ, pos, negsuc, length, Ok, Err, Result}
use Rattle.base.specs.Engine.{Engine, words_from}
use Rattle.base.specs.Refusal.{number_of}
use Rattle.base.specs.declared.refusal.Refusal.{Refusal}
use Rattle.base.specs.Refused.{unless}
use Rattle.base.specs.Iterate.{iterate}
use Rattle.fills.specs.FillBytes.{refusal_of, bytes_written, bytes_draws}

-- the value of an accepted call, or minus the refusal's number: negsuc n is - (n + 1)
abbrev pub answer_of : ℕ → ℕ → ℤ
answer_of zero value = pos value
answer_of (suc n) value = negsuc n

-- the answer that a result is
abbrev pub answered : Result ℤ Refusal → ℤ
answered (Ok value) = value
answered (Err e) = answer_of (number_of e) 0

-- the first refusal of two tests, one after the other
abbrev pub first_of : ℕ → ℕ → ℕ
first_of zero b = b
first_of (suc a) b = suc a

-- A call with this refusal, and this value and this new form if it is accepted: a refused call leaves the form as it was.
pub record Called (refusal value : ℕ) (new form form' : List ℕ) (answer : ℤ) : Type 0 where
  pub answers : answer ≡ answer_of refusal value
  pub saves : form' ≡ unless refusal new form

-- How the generators of an engine are kept: the engine; the refusal of a form, and of a form in a fill whose kind and length have the
-- refusal r; the generator of a form; and the form of a generator.
pub record Forms (G : Type 0) : Type 0 where
  pub engine : Engine G
  pub refusal : List ℕ → ℕ
  pub refusal_by : List ℕ → ℕ → ℕ
  pub read : List ℕ → G
  pub form : G → List ℕ

-- A fill of kind k. Accepted, it answers the draws of the typed fill, the output holds that fill's bytes, and the form is that of the state
-- after them; refused, the output and the form are as they were.
abbrev pub fill_refusal : {G : Type 0} → Forms G → List ℕ → ℕ → List ℕ → ℕ
fill_refusal H form k out = H.refusal_by form (refusal_of k (length out))

pub record HostFill {G : Type 0} (H : Forms G) (form : List ℕ) (k : ℕ) (out : List ℕ) (answer : ℤ) (form' out' : List ℕ) : Type 0 where
  pub called : Called (fill_refusal H form k out) (bytes_draws k (length out)) (H.form (iterate H.engine.next (bytes_draws k (length out)) (H.read form))) form form' answer
  pub writes : out' ≡ unless (fill_refusal H form k out) (bytes_written k (words_from H.engine (H.read form)) (length out)) out

-- A skip of n draws: accepted, it answers 0, and the form is that of the state after them.
abbrev pub HostSkip : {G : Type 0} → Forms G → ℕ → List ℕ → ℤ → List ℕ → Type 0
HostSkip H n form answer form' = Called (H.refusal form) 0 (H.form (iterate H.engine.next n (H.read form))) form form' answer
