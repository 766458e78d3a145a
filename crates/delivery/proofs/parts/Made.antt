-- A part made by a fill of the buffer's first bytes. Assumes nothing.
use Rattle.std.proofs.Common.{◌≡◌, ℕ, zero, suc, ◌+◌, ◌-◌, ◌*◌, ◌%◌, ◌^◌, ◌≤◌, Bool, true, false, List, [], ◌∷◌, ◌++◌, length, take, drop, sym, refl, ap, subst, ◌∙◌, zero-mul, arith, length-take-le}
use native.Mathlib.Nat.{mul-mod_left}
use Rattle.std.specs.Prelude.{Ok, Err, Result}
use Rattle.std.specs.Result.{result_unwrap_or}
use Rattle.base.specs.declared.refusal.Refusal.{Refusal}
use lib.Seq.{length_front}
use Rattle.base.specs.Engine.{words_from}
use Rattle.base.specs.Iterate.{iterate}
use Rattle.fills.specs.FillBytes.{refusal_of, bytes_written, bytes_draws, FilledBytes}
use Rattle.fills.specs.Kinds.{is_kind}
use Rattle.fills.proofs.kinds.Numbers.{accepted}
use Rattle.delivery.specs.source.Source.{next_of, either, answered}
use Rattle.delivery.specs.declared.source.Source.{Source}
use Rattle.delivery.specs.declared.source.SourceFill.{SourceFill}
use Rattle.delivery.specs.parts.Delivery.{width_of, places_of, FilledPart}
use Rattle.delivery.specs.declared.parts.Delivery.{Delivery}
use Rattle.delivery.proofs.parts.Joining.{none-drawn, none_written, length_written}
use Rattle.delivery.proofs.parts.Room.{fits, no_kind}

empty : (l : List ℕ) → length l ≡ 0 → l ≡ []
empty [] e = refl
empty (x ∷ l) e = absurd (omega arith)

-- a fill of bytes that is refused only where it has none
record Made (k : ℕ) (s : Source) (n : ℕ) (after : List ℕ) (count : ℕ) : Type 0 where
  bytes : after ≡ bytes_written k (words_from either s) n
  draws : count ≡ bytes_draws k n

module _ {k : ℕ} {s s' : Source} {l after : List ℕ} (bytes : ℕ) (long : length l ≡ bytes) where
  bytes-made : (refusal : ℕ) {draws : ℕ} → ((refusal ≡ 0 → ⊥) → bytes ≡ 0) → FilledBytes either k s l after refusal draws s'
      → Made k s bytes after draws
  bytes-made zero h F =
      record { bytes = F.writes ∙ ap (bytes_written k (words_from either s)) long; draws = F.count ∙ ap (bytes_draws k) long }
  bytes-made (suc r) h F =
      let z : bytes ≡ 0 = h (omega arith) in
      record {
        bytes = F.writes ∙ empty l (long ∙ z) ∙ sym (ap (bytes_written k (words_from either s)) z ∙ none_written k (words_from either s));
        draws = F.count ∙ sym (ap (bytes_draws k) z ∙ none-drawn k);
      }

-- n places of a part are refused only where there are none
refused_none : (k left m : ℕ) → (refusal_of k (places_of k left m * width_of k) ≡ 0 → ⊥) → places_of k left m ≡ 0
refused_none k left m h = go (is_kind k) refl
  where
    go : (b : Bool) → b ≡ is_kind k → places_of k left m ≡ 0
    go true e = absurd (h (sym (accepted k (places_of k left m * width_of k) e refl refl (mul-mod_left (places_of k left m) (width_of k)))))
    go false e = no_kind k left m e refl

-- by a fill, its draws added to those made before
pub part-made : {d : Delivery} {before after : List ℕ} {n w bytes refusal draws sum : ℕ} {s : Source}
    → n ≡ places_of d.kind d.left (length before) → w ≡ width_of d.kind → bytes ≡ n * w
    → FilledBytes either d.kind d.source (take bytes before) after refusal draws s → sum ≡ (d.draws + draws) % 2 ^ 64
    → FilledPart d before (after ++ drop bytes before) bytes
    (record { source = s; kind = d.kind; left = d.left - n; raw = d.raw; first = d.first; draws = sum })
part-made {d} {before} {after} {n} {w} {bytes} {refusal} {draws} {sum} {s} en ew eb F es =
    let k : ℕ = d.kind in
    let f = fits k d.left (length before) in
    let places : ℕ = places_of k d.left (length before) in
    let count : bytes ≡ places * width_of k = eb ∙ (λ i. en i * ew i) in
    let long : length (take bytes before) ≡ bytes = length-take-le bytes before (omega (arith, count, f.room)) in
    let none : (refusal ≡ 0 → ⊥) → bytes ≡ 0 =
    λ h. count
    ∙ ap (λ (x : ℕ). x * width_of k) (refused_none k d.left (length before) (λ e. h (F.refuses ∙ ap (refusal_of k) (long ∙ count) ∙ e)))
    ∙ zero-mul (width_of k) in
    let made = bytes-made bytes long refusal none F in
    let shown = made.bytes ∙ ap (bytes_written k (words_from either d.source)) count in
    let full : length after ≡ bytes = ap length shown ∙ length_written k (words_from either d.source) places ∙ sym count in
    let same : length (after ++ drop bytes before) ≡ length before = length_front before after bytes (full ∙ sym long) in
    let inside : bytes ≤ length (after ++ drop bytes before) = omega (arith, same, count, f.room) in
    let drawn = made.draws ∙ ap (bytes_draws k) count in
    record {
      count = count;
      writes = ap (λ (l : List ℕ). l ++ drop bytes before) shown;
      remains = λ i. record {
        source = (F.state ∙ ap (λ (x : ℕ). iterate next_of x d.source) drawn) i;
        kind = k;
        left = d.left - en i;
        raw = d.raw;
        first = d.first;
        draws = (es ∙ ap (λ (x : ℕ). (d.draws + x) % 2 ^ 64) drawn) i;
      };
      inside = inside;
      long = sym (length-take-le bytes (after ++ drop bytes before) inside);
    }

-- by the fill that the code makes, where a refused one is as one of no draws
chosen : (s : Source) (r : Result SourceFill Refusal) → (answered s r).value ≡ result_unwrap_or r (record { draws = 0; source = s })
chosen s (Ok f) = refl
chosen s (Err e) = refl

pub part-filled : {d : Delivery} {before after : List ℕ} {n w bytes sum : ℕ} {f : SourceFill} (r : Result SourceFill Refusal)
    → n ≡ places_of d.kind d.left (length before) → w ≡ width_of d.kind → bytes ≡ n * w
    → FilledBytes either d.kind d.source (take bytes before) after (answered d.source r).refusal (answered d.source r).value.draws (answered d.source r).value.source
    → f ≡ result_unwrap_or r (record { draws = 0; source = d.source }) → sum ≡ (d.draws + f.draws) % 2 ^ 64
    → FilledPart d before (after ++ drop bytes before) bytes
    (record { source = f.source; kind = d.kind; left = d.left - n; raw = d.raw; first = d.first; draws = sum })
part-filled {d} {before} {after} {n} {w} {bytes} {sum} {f} r en ew eb F ef es =
    let a = answered d.source r in
    let e : a.value ≡ f = chosen d.source r ∙ sym ef in
    part-made en ew eb (subst (λ (x : SourceFill). FilledBytes either d.kind d.source (take bytes before) after a.refusal x.draws x.source) e F) es
