-- Saving, by the test of the length; and no refusal has the number 0. Assumes nothing.
use Rattle.std.proofs.Common.{◌≡◌, ℕ, List, length, refl, arith, eq-eqb, ne_eqb}
use Rattle.base.specs.Refusal.{number_of}
use Rattle.base.specs.declared.refusal.Refusal.{Refusal}
use Rattle.base.specs.declared.refusal.Refusal.TheVariants.{FormLength, FormMark, ZeroState, UnknownKind, OutputLength, NoSuchLane, LnDomain, TurnsDomain, SqrtDomain, BoxMullerDomain, OtherWords}
use Rattle.saved.specs.fields.Saved.{Saved}

module _ {n : ℕ} {form before : List ℕ} where
  pub save-refused : (length before ≡ n → ⊥) → Saved n form before before 1
  save-refused h = record { refuses = simp (ne_eqb (length before) n h); writes = refl }

  pub save_done : length before ≡ n → {after : List ℕ} → after ≡ form → Saved n form before after 0
  save_done e {after} w = record { refuses = simp (eq-eqb (length before) n e); writes = w }

-- no refusal has the number 0
pub some_number : (e : Refusal) → number_of e ≡ 0 → ⊥
some_number FormLength z = omega arith
some_number FormMark z = omega arith
some_number ZeroState z = omega arith
some_number UnknownKind z = omega arith
some_number OutputLength z = omega arith
some_number NoSuchLane z = omega arith
some_number LnDomain z = omega arith
some_number TurnsDomain z = omega arith
some_number SqrtDomain z = omega arith
some_number BoxMullerDomain z = omega arith
some_number OtherWords z = omega arith
