-- What a byte fill left in its slice, refused or not, in one equation; and what its result answers. Assumes nothing.
use mathlib.Core.List.{List}
use mathlib.Core.Path.{◌≡◌, refl}
use Prim.Native.Nat.{ℕ, zero, suc, ◌^◌, ◌<◌}
use native.Mathlib.Omega.{arith}
use lib.ListN.{length}
use Rattle.base.specs.Engine.{Engine}
use Rattle.base.specs.Refusal.{answer_of}
use Rattle.base.specs.Refused.{unless}
use Rattle.base.specs.declared.refusal.Refusal.{Refusal}
use Rattle.fills.specs.FillBytes.{bytes_written, bytes_draws, FilledBytes}
use Rattle.fills.specs.Handed.{RightBytes}
use Rattle.std.specs.Prelude.{Ok, Err, Result}
use Rattle.std.specs.Result.{result_unwrap_or, result_err}
use Rattle.girderpeach.proofs.Draws.{few_draws}
use Rattle.clients.specs.Refused.{number_in}

either : {A : Type 0} (r : ℕ) {x a b : A} → (r ≡ 0 → x ≡ a) → ((r ≡ 0 → ⊥) → x ≡ b) → x ≡ unless r a b
either zero h k = h refl
either (suc r) h k = k (λ e. omega arith)

pub left_by : {G : Type 0} {W : ℕ → List ℕ} {k : ℕ} {before after : List ℕ} {g g' : G} {refusal draws : ℕ}
    → RightBytes W k before after g refusal draws g' → after ≡ unless refusal (bytes_written k W (length before)) before
left_by {refusal = refusal} h = either refusal h.writes h.kept

-- its draws, and one more, fit a word
pub few_made : {G : Type 0} {E : Engine G} {k : ℕ} {g g' : G} {before after : List ℕ} {refusal draws : ℕ}
    → FilledBytes E k g before after refusal draws g' → length before < 2 ^ 64 → draws < 2 ^ 63
few_made {k = k} {before = before} {refusal = refusal} {draws = draws} F h = go refusal F.count
  where
    go : (r : ℕ) → draws ≡ unless r (bytes_draws k (length before)) 0 → draws < 2 ^ 63
    go zero e = let f = few_draws k (length before) h in omega arith
    go (suc r) e = omega arith

-- ---- a result's value, or else the blank, and the refusal's number are what it answers
pub value_of : {V : Type 0} (w : Result V Refusal) (blank : V) → result_unwrap_or w blank ≡ (answer_of blank w).value
value_of (Ok x) blank = refl
value_of (Err e) blank = refl

pub number_of_err : {V : Type 0} (w : Result V Refusal) (blank : V) → number_in (result_err w) ≡ (answer_of blank w).refusal
number_of_err (Ok x) blank = refl
number_of_err (Err e) blank = refl
