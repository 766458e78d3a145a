-- A host's calls, refused and accepted, on any engine. Assumes nothing.
use mathlib.Core.List.{List}
use mathlib.Core.Path.{◌≡◌, refl, sym, ap, ap₂, ◌∙◌}
use Prim.Native.Nat.{ℕ, zero, suc, ◌^◌, ◌<◌}
use native.Mathlib.Omega.{arith}
use borrow.Author.Tests.{eq-eqb, ne_eqb}
use lib.IntN.{pos}
use lib.ListN.{length}
use Rattle.base.specs.Engine.{Engine, words_from}
use Rattle.base.specs.Refusal.{number_of}
use Rattle.base.specs.declared.refusal.Refusal.{Refusal}
use Rattle.base.proofs.Refused.{unless-none, unless-some}
use Rattle.base.specs.Iterate.{iterate}
use Rattle.base.specs.Refused.{unless}
use Rattle.fills.specs.FillBytes.{bytes_written, bytes_draws, FilledBytes}
use Rattle.saved.specs.fields.Saved.{length_refusal, Saved}
use Rattle.girderpeach.specs.Host.{answer_of, first_of, Called, Forms, fill_refusal, HostFill}
use Rattle.saved.proofs.fields.Saved.{some_number}
use Rattle.girderpeach.proofs.Draws.{few_draws}

-- ---- by the refusal
pub first-none : (a b : ℕ) → a ≡ 0 → first_of a b ≡ b
first-none zero b e = refl
first-none (suc a) b e = absurd (omega arith)

pub first_some : (a b : ℕ) → (a ≡ 0 → ⊥) → first_of a b ≡ a
first_some zero b h = absurd (h refl)
first_some (suc a) b h = refl

pub length_no : {n : ℕ} (form : List ℕ) → (length form ≡ n → ⊥) → 1 ≡ length_refusal n form
length_no {n} form h = simp (ne_eqb (length form) n h)

pub length_yes : {n : ℕ} (form : List ℕ) → length form ≡ n → length_refusal n form ≡ 0
length_yes {n} form e = simp (eq-eqb (length form) n e)

-- ---- any call
-- a refusal's answer has no value
pub no_value : (r v : ℕ) → (r ≡ 0 → ⊥) → answer_of r 0 ≡ answer_of r v
no_value zero v h = absurd (h refl)
no_value (suc r) v h = refl

module _ {refusal value : ℕ} {new form : List ℕ} where
  -- one that is refused with e
  pub called-refused : (e : Refusal) → number_of e ≡ refusal → Called refusal value new form form (answer_of (number_of e) 0)
  called-refused e q =
      record {
        answers = no_value (number_of e) value (some_number e) ∙ ap (λ (r : ℕ). answer_of r value) q;
        saves = sym (unless-some refusal (λ z. some_number e (q ∙ z)) new form);
      }

  -- one that is done
  pub called_done : refusal ≡ 0 → {v : ℕ} → v ≡ value → {form' : List ℕ} → form' ≡ new → Called refusal value new form form' (pos v)
  called_done z w s =
      record { answers = ap pos w ∙ ap (λ (r : ℕ). answer_of r value) (sym z); saves = s ∙ sym (unless-none refusal z new form) }

-- ---- an accepted form has its length, so that saving in its place isn't refused
pub record Sized {G : Type 0} (H : Forms G) (n : ℕ) : Type 0 where
  pub sized : (s : List ℕ) → H.refusal s ≡ 0 → length_refusal n s ≡ 0

module _ {G : Type 0} {H : Forms G} {n : ℕ} (Z : Sized H n) {form : List ℕ} (z : 0 ≡ H.refusal form) {new form' : List ℕ} {r : ℕ}
    (S : Saved n new form form' r) where
  pub none-refused : r ≡ 0
  none-refused = S.refuses ∙ Z.sized form (sym z)

  pub saved_form : form' ≡ new
  saved_form = S.writes ∙ unless-none r none-refused new form

  -- a call that ends in saving
  pub called_saved : {new' : List ℕ} → new ≡ new' → Called (H.refusal form) 0 new' form form' (answer_of r 0)
  called_saved e =
      let done = called_done (sym z) refl (saved_form ∙ e) in
      record { answers = ap (λ (x : ℕ). answer_of x 0) none-refused ∙ done.answers; saves = done.saves }

-- ---- a fill
-- what a fill of bytes answers fits
pub few_made : {G : Type 0} {E : Engine G} {k : ℕ} {g g' : G} {out out' : List ℕ} {r draws : ℕ} → FilledBytes E k g out out' r draws g'
    → length out < 2 ^ 64 → draws < 2 ^ 63
few_made {k = k} {out = out} {r = r} {draws = draws} F h = go r F.count
  where
    go : (r : ℕ) → draws ≡ unless r (bytes_draws k (length out)) 0 → draws < 2 ^ 63
    go zero e = let f = few_draws k (length out) h in omega arith
    go (suc r) e = omega arith

module _ {G : Type 0} (H : Forms G) (form : List ℕ) (k : ℕ) (out : List ℕ) where
  -- one that is refused with e
  pub fill-refused : (e : Refusal) → number_of e ≡ fill_refusal H form k out → HostFill H form k out (answer_of (number_of e) 0) form out
  fill-refused e q =
      record { called = called-refused e q; writes = sym (unless-some (fill_refusal H form k out) (λ z. some_number e (q ∙ z)) _ out) }

  -- one that is done
  pub fill_done : {g g' : G} {out' : List ℕ} {draws : ℕ} → FilledBytes H.engine k g out out' 0 draws g' → fill_refusal H form k out ≡ 0
      → g ≡ H.read form → {form' : List ℕ} → form' ≡ H.form g' → HostFill H form k out (pos draws) form' out'
  fill_done F z eg s =
      record {
        called = called_done z F.count (s ∙ ap H.form (F.state ∙ ap₂ (λ (m : ℕ) (x : G). iterate H.engine.next m x) F.count eg));
        writes =
            F.writes ∙ ap (λ (x : G). bytes_written k (words_from H.engine x) (length out)) eg
            ∙ sym (unless-none (fill_refusal H form k out) z _ out);
      }
