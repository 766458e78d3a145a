-- What a host's answer tells of a call, and of a fill, on any engine. Assumes nothing.
use mathlib.Core.List.{List}
use mathlib.Core.Path.{◌≡◌, refl, sym, ap, ◌∙◌}
use Prim.Native.Nat.{ℕ, zero, suc}
use lib.IntN.{ℤ, pos, negsuc}
use lib.ListN.{length}
use Rattle.base.specs.Engine.{words_from}
use Rattle.base.specs.Refused.{unless}
use Rattle.base.specs.Iterate.{iterate}
use Rattle.fills.specs.FillBytes.{refusal_of, bytes_written, bytes_draws}
use Rattle.girderpeach.specs.Host.{answer_of, Called, Forms, HostFill, HostSkip}
use Rattle.history.specs.host.Answers.{if_accepted, answered, RightAnswer}

-- ---- any call
-- what the refusal picks, the answer picks
picked : {A : Type 0} (r v : ℕ) {answer : ℤ} → answer ≡ answer_of r v → (a b : A) → unless r a b ≡ if_accepted answer a b
picked zero v e a b = ap (λ (x : ℤ). if_accepted x a b) (sym e)
picked (suc r) v e a b = ap (λ (x : ℤ). if_accepted x a b) (sym e)

-- what an answer reports
reports : (r v : ℕ) → answered (answer_of r v) ≡ unless r v 0
reports zero v = refl
reports (suc r) v = refl

module _ {r v : ℕ} {new form form' : List ℕ} {answer : ℤ} (c : Called r v new form form' answer) where
  pub chosen : {A : Type 0} (a b : A) → unless r a b ≡ if_accepted answer a b
  chosen = picked r v c.answers

  pub saved : form' ≡ if_accepted answer new form
  saved = c.saves ∙ chosen new form

  stays : (n : ℕ) → answer ≡ negsuc n → form' ≡ form
  stays n e = saved ∙ ap (λ (x : ℤ). if_accepted x new form) e

  pub counted : answered answer ≡ if_accepted answer v 0
  counted = ap answered c.answers ∙ reports r v ∙ chosen v 0

-- ---- a fill, where the form is accepted, so that only the kind and the length are refused, and is that of the generator g
module _ {G : Type 0} {H : Forms G} {form : List ℕ} {k : ℕ} {before : List ℕ} {answer : ℤ} {form' after : List ℕ} (F : HostFill H form k before answer form' after)
    (ok : (r : ℕ) → H.refusal_by form r ≡ r) {g : G} (read : H.read form ≡ g) where
  -- it is right, where W m are the words of draw m from g
  pub right : (W : ℕ → List ℕ) → ((m : ℕ) → words_from H.engine g m ≡ W m) → RightAnswer (refusal_of k (length before)) W k before after answer form form'
  right W same =
      record {
        answers = F.called.answers ∙ ap (λ (r : ℕ). answer_of r (bytes_draws k (length before))) (ok (refusal_of k (length before)));
        writes =
            F.writes
            ∙ chosen F.called _ before
            ∙ (λ i. if_accepted answer (bytes_written k (λ m. (ap (λ (x : G). words_from H.engine x m) read ∙ same m) i) (length before)) before);
        stays = stays F.called;
      }

  -- the draws of an accepted fill are made, and none of a refused one
  pub leaves : form ≡ H.form g → form' ≡ H.form (iterate H.engine.next (if_accepted answer (bytes_draws k (length before)) 0) g)
  unfolding iterate
  leaves e = saved F.called ∙ ap (λ (x : G). if_accepted answer (H.form (iterate H.engine.next (bytes_draws k (length before)) x)) form) read ∙ go answer
    where
      go : (a : ℤ) → if_accepted a (H.form (iterate H.engine.next (bytes_draws k (length before)) g)) form ≡ H.form (iterate H.engine.next (if_accepted a (bytes_draws k (length before)) 0) g)
      go (pos n) = refl
      go (negsuc n) = e

-- ---- a skip, where the form is accepted, and is that of the generator g
module _ {G : Type 0} (H : Forms G) (n : ℕ) {form : List ℕ} {answer : ℤ} {form' : List ℕ} (S : HostSkip H n form answer form')
    (ok : H.refusal form ≡ 0) where
  pub skip-answers : answer ≡ pos 0
  skip-answers = S.answers ∙ ap (λ (r : ℕ). answer_of r 0) ok

  pub skip-counted : if_accepted answer n 0 ≡ n
  skip-counted = ap (λ (x : ℤ). if_accepted x n 0) skip-answers

  pub skip_leaves : {g : G} → H.read form ≡ g → form' ≡ H.form (iterate H.engine.next n g)
  skip_leaves {g} read =
      S.saves ∙ ap (λ (r : ℕ). unless r (H.form (iterate H.engine.next n (H.read form))) form) ok
      ∙ ap (λ (x : G). H.form (iterate H.engine.next n x)) read
