-- What a fill's promise says by the words that its draws hand out, where a byte fill is refused and where it is not. Assumes nothing.
use mathlib.Core.List.{List}
use mathlib.Core.Path.{◌≡◌, sym, ap, ◌∙◌, fun_ext}
use Prim.Native.Nat.{ℕ}
use lib.ListN.{length}
use Rattle.base.specs.Engine.{Engine, words_from}
use Rattle.base.proofs.Refused.{unless-none, unless-some, unless_again}
use Rattle.base.specs.Refused.{unless}
use Rattle.base.specs.Iterate.{iterate}
use Rattle.base.specs.Table.{table}
use Rattle.fills.specs.Fill.{Kind, element, Filled}
use Rattle.fills.specs.FillBytes.{refusal_of, bytes_written, bytes_draws, FilledBytes}
use Rattle.fills.specs.Handed.{RightFill, RightBytes}

module _ {G : Type 0} {E : Engine G} {g g' : G} (W : ℕ → List ℕ) (e : (m : ℕ) → words_from E g m ≡ W m) where
  pub right_fill : {A : Type 0} {K : Kind A} {before after : List A} {draws : ℕ} → Filled E K g before after draws g'
      → RightFill W K before after draws
  right_fill {A} {K} {before} h = record { writes = h.writes ∙ ap (λ (X : ℕ → List ℕ). table (length before) (element K X)) (fun_ext e); count = h.count }

module _ {G : Type 0} {E : Engine G} {k : ℕ} {g g' : G} {before after : List ℕ} {refusal draws : ℕ}
    (h : FilledBytes E k g before after refusal draws g') where
  -- the draws by the conditions alone; and a refused fill reports none
  pub draws-made : draws ≡ unless (refusal_of k (length before)) (bytes_draws k (length before)) 0
  draws-made = h.count ∙ ap (λ (n : ℕ). unless n (bytes_draws k (length before)) 0) h.refuses

  pub draws-reported : unless refusal draws 0 ≡ draws
  draws-reported = ap (λ (n : ℕ). unless refusal n 0) h.count ∙ unless_again refusal _ _ ∙ sym h.count

  pub right_bytes : (W : ℕ → List ℕ) → ((m : ℕ) → words_from E g m ≡ W m) → RightBytes W k before after g refusal draws g'
  unfolding iterate
  right_bytes W e =
      record {
        refuses = h.refuses;
        writes = λ z. h.writes ∙ unless-none refusal z _ _ ∙ ap (λ (X : ℕ → List ℕ). bytes_written k X (length before)) (fun_ext e);
        count = draws-made;
        kept = λ z. h.writes ∙ unless-some refusal z _ _;
        stays = λ z. h.state ∙ ap (λ (n : ℕ). iterate E.next n g) (h.count ∙ unless-some refusal z _ _);
      }
