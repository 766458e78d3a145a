-- A host's calls by the number that refuses them, 0 where none does. Assumes nothing.
use mathlib.Core.Bool.{Bool, true, false, cond, not}
use mathlib.Core.List.{List}
use mathlib.Core.Path.{◌≡◌, refl, sym, ap, ap₂, ◌∙◌}
use Prim.Native.Nat.{ℕ}
use borrow.Author.Tests.{not-true, not-false}
use lib.IntN.{ℤ}
use lib.ListN.{length}
use Rattle.base.specs.Iterate.{iterate}
use Rattle.base.specs.Refusal.{Answer}
use Rattle.base.specs.Refused.{unless}
use Rattle.base.proofs.Refused.{unless-none, unless-some}
use Rattle.fills.specs.FillBytes.{refusal_of, FilledBytes}
use Rattle.philox.specs.x8.Machine.{label_of}
use Rattle.philox.specs.declared.x8.Label.{Label}
use Rattle.philox.specs.declared.x8.Philox4x32X8.{Philox4x32X8}
use Rattle.saved.specs.fields.Saved.{Written, Saved}
use Rattle.saved.specs.philox4x32.Form as philox-form
use Rattle.saved.specs.philox4x32.Form.{parsed, is_numbered}
use Rattle.saved.proofs.philox4x32.Form.{load_by}
use Rattle.girderpeach.specs.Host.{answer_of, first_of, Called, Forms, fill_refusal, HostFill, HostSkip}
use Rattle.girderpeach.specs.Philox as philox
use Rattle.girderpeach.proofs.Few.{Sound}
use Rattle.girderpeach.proofs.Host.{Sized, called_saved, first-none, first_some, no_value}
use Rattle.girderpeach.proofs.Host as host

-- ---- any call
module _ {refusal : ℕ} (value : ℕ) {answer : ℤ} where
  pub answer-refused : {r : ℕ} → r ≡ refusal → (r ≡ 0 → ⊥) → answer ≡ answer_of r 0 → answer ≡ answer_of refusal value
  answer-refused {r} e h q = q ∙ ap (λ (x : ℕ). answer_of x 0) e ∙ no_value refusal value (λ z. h (e ∙ z))

  pub answer_done : {r : ℕ} → r ≡ refusal → r ≡ 0 → {v : ℕ} → answer ≡ answer_of 0 v → v ≡ value → answer ≡ answer_of refusal value
  answer_done e z q w = q ∙ ap₂ (λ (x y : ℕ). answer_of x y) (sym z ∙ e) w

module _ {refusal value : ℕ} {new form : List ℕ} {answer : ℤ} where
  pub called-refused-by : {r : ℕ} → r ≡ refusal → (r ≡ 0 → ⊥) → answer ≡ answer_of r 0 → Called refusal value new form form answer
  called-refused-by e h q =
      record { answers = answer-refused value e h q; saves = sym (unless-some refusal (λ z. h (e ∙ z)) new form) }

-- ---- a call that only writes a form, refused or not
pub called_written : {refused : ℕ} {new form form' : List ℕ} {r : ℕ} → Written refused new form form' r
    → {new' : List ℕ} {answer : ℤ} → answer ≡ answer_of r 0 → new ≡ new' → Called refused 0 new' form form' answer
called_written {form = form} S q e =
    record {
      answers = q ∙ ap (λ (x : ℕ). answer_of x 0) S.refuses;
      saves = S.writes ∙ ap₂ (λ (x : ℕ) (l : List ℕ). unless x l form) S.refuses e;
    }

-- ---- a skip of n draws, done
pub skip_done : {G : Type 0} (H : Forms G) {size : ℕ} → Sound H size → (n : ℕ) {form : List ℕ} {r : ℕ} → r ≡ H.refusal form → r ≡ 0
    → {g g' : G} → g ≡ H.read form → g' ≡ iterate H.engine.next n g → {form' : List ℕ} {r' : ℕ} → Saved size (H.form g') form form' r'
    → HostSkip H n form (answer_of 0 0) form'
skip_done {G} H {size} sound n {form} e z eg es {form'} S =
    let Z : Sized H size = record { sized = sound.sized } in
    let k = sym z ∙ e in
    let made = es ∙ ap (λ (x : G). iterate H.engine.next n x) eg in
    let done = called_saved Z k S (ap H.form made) in
    record { answers = ap (λ (x : ℕ). answer_of x 0) (sym (host.none-refused Z k S)) ∙ done.answers; saves = done.saves }

-- ---- a fill
module _ {G : Type 0} (H : Forms G) (form : List ℕ) (k : ℕ) (out : List ℕ) where
  -- one that is refused before it begins
  pub fill-refused-by : {r : ℕ} {answer : ℤ} → r ≡ fill_refusal H form k out → (r ≡ 0 → ⊥) → answer ≡ answer_of r 0
      → HostFill H form k out answer form out
  fill-refused-by e h q =
      record { called = called-refused-by e h q; writes = sym (unless-some (fill_refusal H form k out) (λ z. h (e ∙ z)) _ out) }

  -- one that the fill of bytes refuses
  pub fill_no_kind : {g g' : G} {out' : List ℕ} {r draws : ℕ} → FilledBytes H.engine k g out out' r draws g' → r ≡ fill_refusal H form k out
      → {answer : ℤ} → (r ≡ 0 → ⊥) → answer ≡ answer_of r 0 → HostFill H form k out answer form out'
  fill_no_kind {r = r} F e h q =
      record {
        called = called-refused-by e h q;
        writes = F.writes ∙ unless-some r h _ out ∙ sym (unless-some (fill_refusal H form k out) (λ z. h (e ∙ z)) _ out);
      }

-- ---- the label of a form that is loaded, by the half that it names
pub labelled : (form : List ℕ) {read : Answer Philox4x32X8} → read ≡ philox-form.loaded form → read.refusal ≡ 0 → {label : Label}
    → label ≡ label_of read.value
    → {b : Bool} → label.upper ≡ b → {first : ℕ} → philox.Labelled form first (answer_of 0 (cond b 1 0)) label.first
labelled form er z {label} el {b} eb {first} =
    let whole : label ≡ label_of (philox-form.loaded form).value = el ∙ ap (λ (r : Answer Philox4x32X8). label_of r.value) er in
    let upper = sym eb ∙ ap (λ (l : Label). l.upper) whole in
    let e = ap (λ (r : Answer Philox4x32X8). r.refusal) er in
    record {
      answers = answer_done _ e z refl (ap (λ (u : Bool). cond u 1 0) upper);
      writes = ap (λ (l : Label). l.first) whole ∙ sym (unless-none _ (sym e ∙ z) _ first);
    }

-- ---- a fill of a Philox form, by what its bytes tell: that, the kind or the length, or the words that wait may be refused
module _ (form : List ℕ) (k : ℕ) (out : List ℕ) {told : Answer Philox4x32X8} (et : told ≡ parsed form) where
  abbrev number : ℕ
  number = fill_refusal philox.forms form k out

  pub bytes-refused : (told.refusal ≡ 0 → ⊥) → told.refusal ≡ number
  bytes-refused h = let e = ap (λ (r : Answer Philox4x32X8). r.refusal) et in e ∙ sym (first_some _ _ (λ z. h (e ∙ z)))

  module _ (z : told.refusal ≡ 0) {r : ℕ} (er : r ≡ refusal_of k (length out)) where
    behind : first_of (refusal_of k (length out)) (philox-form.loaded form).refusal ≡ number
    behind = sym (first-none _ _ (ap (λ (r : Answer Philox4x32X8). r.refusal) (sym et) ∙ z))

    pub kind-refused : (r ≡ 0 → ⊥) → r ≡ number
    kind-refused h = er ∙ sym (first_some _ _ (λ z. h (er ∙ z))) ∙ behind

    module _ (zr : r ≡ 0) {ok : Bool} (eo : ok ≡ is_numbered told.value) where
      last : (philox-form.loaded form).refusal ≡ number
      last = sym (first-none _ _ (sym er ∙ zr)) ∙ behind

      pub group-refused : not ok ≡ true → 14 ≡ number
      group-refused h = ap (λ (r : Answer Philox4x32X8). r.refusal) (load_by form et eo (not-true ok h)) ∙ last

      pub is-loaded : not ok ≡ false → told ≡ philox-form.loaded form
      is-loaded h = load_by form et eo (not-false ok h)

      pub none-refused : not ok ≡ false → number ≡ 0
      none-refused h = sym last ∙ ap (λ (r : Answer Philox4x32X8). r.refusal) (sym (is-loaded h)) ∙ z
