-- The claims of specs/Claims.antt. Assumes nothing.
use mathlib.Core.Bool.{Bool, cond}
use mathlib.Core.List.{List, [], ◌∷◌}
use mathlib.Core.Path.{◌≡◌, refl, sym, ap, ap₂, ◌∙◌}
use Prim.Native.Nat.{ℕ, zero, suc, ◌+◌, ◌-◌, ◌*◌, ◌/◌, ◌%◌, ◌^◌, ◌<◌, ◌≤◌}
use native.Mathlib.Decide.{dec_le, ℕ_discrete}
use native.Mathlib.Omega.{arith}
use borrow.Author.Tests.{eq-eqb, ne_eqb, le-leb}
use lib.Dec.{eqb}
use lib.IntN.{ℤ, pos, nat_abs, pos-ne-negsuc}
use lib.ListN.{length, get_or, length-append}
use Rattle.base.specs.Bytes.{le_bytes}
use Rattle.base.specs.Refusal.{Answer}
use Rattle.base.specs.Refused.{unless}
use Rattle.base.proofs.Iterate.{iterate_keeps}
use Rattle.base.proofs.Refused.{unless-none}
use Rattle.base.proofs.Table.{get_or-table}
use Rattle.fills.specs.FillBytes.{refusal_of, bytes_draws}
use Rattle.fills.specs.Kinds.{kinds, kind_at}
use Rattle.fills.proofs.Theorems as fills
use Rattle.philox.specs.x8.Machine.{next_of, sought, label_of, left_of}
use Rattle.philox.specs.declared.x8.Label.{Label}
use Rattle.philox.specs.declared.x8.Philox4x32X8.{Philox4x32X8}
use Rattle.philox.proofs.x8.Theorems.{left-sought, left-at-most}
use Rattle.saved.specs.fields.Fields.{fields}
use Rattle.saved.specs.fields.Saved.{length_refusal}
use Rattle.saved.specs.philox4x32.Form as philox-form
use Rattle.saved.specs.philox4x32.Form.{counter_in, mark_in, number_in}
use Rattle.saved.specs.philox4x32.Moves.{layout96, number_for, with_number}
use Rattle.saved.specs.xoshiro256pp.Form as xoshiro-form
use Rattle.saved.specs.xoshiro256pp.Form.{lane_in}
use Rattle.saved.proofs.philox4x32.Form.{mark_saved, told, told_14, load-accepted}
use Rattle.saved.proofs.philox4x32.Moves.{accepted as moved-accepted}
use Rattle.saved.proofs.philox4x32.Sound.{Sound, restored, sound_sought, sound_next, sound_loaded}
use Rattle.saved.proofs.philox4x32.Theorems as philox-saved
use Rattle.saved.proofs.xoshiro256pp.Theorems as xoshiro-saved
use Rattle.xoshiro.specs.scalar.Calls.{state_of}
use Rattle.xoshiro_steps.specs.Xoshiro256pp.{all_zero}
use Rattle.girderpeach.specs.Claims.{Refusal, Answers, wrong_length, wrong_lengths, zero_lane, wrong_mark, wrong_group, no_kind, no_multiple}
use Rattle.girderpeach.specs.Claims.{left_in, XoshiroRefusals, PhiloxRefusals, LabelFirst}
use Rattle.girderpeach.specs.Claims.{MovedBack, StaysAccepted, SoughtLeft, MostLeft}
use Rattle.girderpeach.specs.Philox as philox
use Rattle.girderpeach.specs.Host.{answer_of, first_of, fill_refusal}
use Rattle.girderpeach.proofs.Host.{length_no, length_yes}
use Rattle.girderpeach.proofs.Refusals.{not, stable, is_true, not_true, implies, both, some, when}
use Rattle.girderpeach.proofs.Refusals.{Decided, lowest, Rising, answers, in_turn, fourteen_last}

-- ---- the length of a form
module _ (n : ℕ) (form : List ℕ) where
  has_length : Dec (length form ≡ n)
  has_length = ℕ_discrete (length form) n

  short : Dec (length form ≡ n → ⊥)
  short = not has_length

  length-number : (d : Dec (length form ≡ n → ⊥)) → length_refusal n form ≡ lowest (wrong_length n form ∷ []) (d, tt)
  length-number (yes h) = sym (length_no form h)
  length-number (no h) = length_yes form (stable has_length h)

  -- a call that only looks at it
  only-length : {answer : ℤ} → answer ≡ answer_of (length_refusal n form) 0 → Answers answer 0 (wrong_length n form ∷ [])
  only-length e =
      answers 0 0 (wrong_length n form ∷ []) (short, tt) (omega arith, tt) (e ∙ ap (λ (r : ℕ). answer_of r 0) (length-number short))

-- ---- the form of an eight-lane generator
module _ (form : List ℕ) where
  lane : ℕ → Bool
  lane i = all_zero (state_of (lane_in (fields xoshiro-form.layout form) i))

  lane_decided : Dec (when (zero_lane form))
  unfolding lane
  lane_decided = some (λ i. is_true (lane i)) _

  xoshiro-number : (d : Dec (length form ≡ 256 → ⊥)) (e : Dec (when (zero_lane form)))
      → (xoshiro-form.loaded form).refusal ≡ lowest (wrong_length 256 form ∷ zero_lane form ∷ []) (d, (e, tt))
  xoshiro-number (yes h) e = (xoshiro-saved.refusals form).one h
  xoshiro-number (no h) (yes z) = (xoshiro-saved.refusals form).three (stable (has_length 256 form) h) z.0 (omega (arith, z.1)) z.2
  xoshiro-number (no h) (no q) =
      (xoshiro-saved.refusals form).accepted (stable (has_length 256 form) h) (λ i l. not_true _ (λ e. q (i, l, e)))

-- ---- the form of a Philox generator
module _ (form : List ℕ) where
  abbrev f : List ℕ
  f = fields philox-form.layout form

  mark_decided : Dec (when (wrong_mark form))
  mark_decided = both (not (ℕ_discrete (mark_in f) 1)) (implies (ℕ_discrete (mark_in f) 0) (some (λ i. not (ℕ_discrete _ 0)) _))

  group_decided : Dec (when (wrong_group form))
  group_decided = both (ℕ_discrete (mark_in f) 1) (some (λ i. not (ℕ_discrete _ _)) _)

  module _ (long : length form ≡ 104) where
    -- with mark 0, one of the nine words after it
    one_word : mark_in f ≡ 0 → (i : ℕ) → i < 9 → (get_or f (5 + i) 0 ≡ 0 → ⊥) → (philox-form.loaded form).refusal ≡ 2
    one_word z i l q = elim (dec_le (suc i) 8) [
      | yes k ↦ (philox-saved.refusals form).two_waiting long z i k (λ e. q (sym (get_or-table 8 (λ j. get_or f (5 + j) 0) i 0 k) ∙ e))
      | no k ↦ let e : i ≡ 8 = omega arith in (philox-saved.refusals form).two_number long z (rw e at q)
    ]

    marked_wrong : when (wrong_mark form) → (philox-form.loaded form).refusal ≡ 2
    marked_wrong w = elim (ℕ_discrete (mark_in f) 0) [
      | yes z ↦ let s = w.1 z in one_word z s.0 s.1 s.2
      | no q ↦ (philox-saved.refusals form).two long w.0 q
    ]

    accepted-form : (when (wrong_mark form) → ⊥) → (when (wrong_group form) → ⊥) → Dec (mark_in f ≡ 1) → Dec (mark_in f ≡ 0)
        → (philox-form.loaded form).refusal ≡ 0
    accepted-form w g (yes m) d = (philox-saved.refusals form).marked long m (λ i l. stable (ℕ_discrete _ _) (λ n. g (m, (i, l, n))))
    accepted-form w g (no q) (no z) = absurd (w (q, λ z'. absurd (z z')))
    accepted-form w g (no q) (yes z) =
        let zero-at : (i : ℕ) → i < 9 → get_or f (5 + i) 0 ≡ 0 = λ i l. stable (ℕ_discrete _ 0) (λ n. w (q, λ z'. (i, l, n))) in
        (philox-saved.refusals form).unmarked long z
        (λ i l. get_or-table 8 (λ j. get_or f (5 + j) 0) i 0 l ∙ zero-at i (omega arith)) (zero-at 8 (omega arith))

  philox-number : (d : Dec (length form ≡ 104 → ⊥)) (e : Dec (when (wrong_mark form))) (g : Dec (when (wrong_group form)))
      → (philox-form.loaded form).refusal ≡ lowest (wrong_length 104 form ∷ wrong_mark form ∷ wrong_group form ∷ []) (d, (e, (g, tt)))
  philox-number (yes h) e g = (philox-saved.refusals form).one h
  philox-number (no h) (yes w) g = marked_wrong (stable (has_length 104 form) h) w
  philox-number (no h) (no w) (yes g) =
      (philox-saved.refusals form).fourteen (stable (has_length 104 form) h) g.0 g.1.0 g.1.1 g.1.2
  philox-number (no h) (no w) (no g) =
      accepted-form (stable (has_length 104 form) h) w g (ℕ_discrete (mark_in f) 1) (ℕ_discrete (mark_in f) 0)

  -- what its bytes tell by themselves
  parsed-number : (d : Dec (length form ≡ 104 → ⊥)) (e : Dec (when (wrong_mark form))) (g : Dec (when (wrong_group form)))
      → (philox-form.parsed form).refusal ≡ lowest (wrong_length 104 form ∷ wrong_mark form ∷ []) (d, (e, tt))
  parsed-number (yes h) e g = told form (philox-number (yes h) e g) (λ z. omega arith)
  parsed-number (no h) (yes w) g = told form (philox-number (no h) (yes w) g) (λ z. omega arith)
  parsed-number (no h) (no w) (yes g) = told_14 form (philox-number (no h) (no w) (yes g))
  parsed-number (no h) (no w) (no g) = told form (philox-number (no h) (no w) (no g)) (λ z. omega arith)

  -- the draws left and the label of an accepted form, by its fields
  module _ (z : (philox-form.loaded form).refusal ≡ 0) where
    marked : cond (eqb (mark_in f) 1) 1 0 ≡ mark_in f
    marked = (mark_saved _ _ _ (load-accepted form z).form).mark

    left-read : left_of (philox-form.loaded form).value ≡ left_in form
    unfolding left_of
    left-read = ap left_of (load-accepted form z).holds ∙ ap (λ (m : ℕ). 2 * ((2 ^ 64 - counter_in f) / 8) + m) marked

    label-read : label_of (philox-form.loaded form).value ≡ record {
      first = cond (eqb (mark_in f) 1) (number_in f) (counter_in f);
      upper = eqb
          (mark_in f) 1;
    }
    unfolding label_of
    label-read = ap label_of (load-accepted form z).holds

    half_read : cond (label_of (philox-form.loaded form).value).upper 1 0 ≡ mark_in f
    half_read = ap (λ (l : Label). cond l.upper 1 0) label-read ∙ marked

  -- a value that an accepted form has
  value_read : {v w : ℕ} → ((philox-form.loaded form).refusal ≡ 0 → v ≡ w) → (r : ℕ) → (philox-form.loaded form).refusal ≡ r
      → answer_of r v ≡ answer_of r w
  value_read h zero e = ap pos (h e)
  value_read h (suc r) e = refl

-- ---- the kind, and the output's length
module _ (k : ℕ) (out : List ℕ) where
  in_table : Dec ((1 ≤ k) × (k ≤ length kinds))
  in_table = both (dec_le 1 k) (dec_le k (length kinds))

  is_multiple : Dec (length out % (kind_at k).kind.width ≡ 0)
  is_multiple = ℕ_discrete (length out % (kind_at k).kind.width) 0

  outside : ((1 ≤ k) × (k ≤ length kinds) → ⊥) → refusal_of k (length out) ≡ 4
  outside h = elim (dec_le 1 k) [
    | yes a ↦ elim (dec_le k (length kinds)) [
      | yes b ↦ absurd (h (a, b))
      | no b ↦ (fills.refusals k (length out)).above (omega arith)
    ]
    | no a ↦ (fills.refusals k (length out)).below (omega arith)
  ]

  uneven : 1 ≤ k → k ≤ length kinds → (length out % (kind_at k).kind.width ≡ 0 → ⊥) → refusal_of k (length out) ≡ 5
  unfolding refusal_of
  uneven a b z = simp (le-leb 1 k a, le-leb k (length kinds) b, ne_eqb (length out % (kind_at k).kind.width) 0 z)

  kind-number : (d : Dec ((1 ≤ k) × (k ≤ length kinds) → ⊥)) (e : Dec (length out % (kind_at k).kind.width ≡ 0 → ⊥))
      → refusal_of k (length out) ≡ lowest (no_kind k ∷ no_multiple k out ∷ []) (d, (e, tt))
  kind-number (yes h) e = outside h
  kind-number (no h) (yes q) = let t = stable in_table h in uneven t.0 t.1 q
  kind-number (no h) (no q) = let t = stable in_table h in (fills.refusals k (length out)).accepts t.0 t.1 (stable is_multiple q)

-- ---- a call with these refusals, decided, of which r is the lowest
on : (v : ℕ) (rs : List Refusal) (d : Decided rs) → Rising 0 rs → {r : ℕ} → r ≡ lowest rs d → {answer : ℤ} → answer ≡ answer_of r v
    → Answers answer v rs
on v rs d up q a = answers 0 v rs d up (a ∙ ap (λ (x : ℕ). answer_of x v) q)

module _ (form : List ℕ) where
  on_xoshiro : {answer : ℤ} → answer ≡ answer_of (xoshiro-form.loaded form).refusal 0
      → Answers answer 0 (wrong_length 256 form ∷ zero_lane form ∷ [])
  on_xoshiro =
      let d = short 256 form in
      let e = lane_decided form in
      on 0 (wrong_length 256 form ∷ zero_lane form ∷ []) (d, (e, tt)) (omega arith, (omega arith, tt)) (xoshiro-number form d e)

  on_xoshiro_fill : (k : ℕ) (out : List ℕ) (v : ℕ) {answer : ℤ}
      → answer ≡ answer_of (first_of (xoshiro-form.loaded form).refusal (refusal_of k (length out))) v
      → Answers answer v (wrong_length 256 form ∷ zero_lane form ∷ no_kind k ∷ no_multiple k out ∷ [])
  on_xoshiro_fill k out v =
      let d = short 256 form in
      let e = lane_decided form in
      let f = not (in_table k out) in
      let g = not (is_multiple k out) in
      on v (wrong_length 256 form ∷ zero_lane form ∷ no_kind k ∷ no_multiple k out ∷ []) (d, (e, (f, (g, tt))))
      (omega arith, (omega arith, (omega arith, (omega arith, tt))))
      (ap₂ first_of (xoshiro-number form d e) (kind-number k out f g) ∙ in_turn 0 2 4 5 d e f g)

  on_philox : (v : ℕ) {answer : ℤ} → answer ≡ answer_of (philox-form.loaded form).refusal v
      → Answers answer v (wrong_length 104 form ∷ wrong_mark form ∷ wrong_group form ∷ [])
  on_philox v =
      let d = short 104 form in
      let e = mark_decided form in
      let g = group_decided form in
      on v (wrong_length 104 form ∷ wrong_mark form ∷ wrong_group form ∷ []) (d, (e, (g, tt))) (omega arith, (omega arith, (omega arith, tt)))
      (philox-number form d e g)

  on_philox_fill : (k : ℕ) (out : List ℕ) (v : ℕ) {answer : ℤ}
      → answer ≡ answer_of (first_of (philox-form.parsed form).refusal (first_of (refusal_of k (length out))
      (philox-form.loaded form).refusal)) v
      → Answers answer v (wrong_length 104 form ∷ wrong_mark form ∷ no_kind k ∷ no_multiple k out ∷ wrong_group form ∷ [])
  on_philox_fill k out v =
      let d = short 104 form in
      let e = mark_decided form in
      let h = not (in_table k out) in
      let i = not (is_multiple k out) in
      let g = group_decided form in
      on v (wrong_length 104 form ∷ wrong_mark form ∷ no_kind k ∷ no_multiple k out ∷ wrong_group form ∷ []) (d, (e, (h, (i, (g, tt)))))
      (omega arith, (omega arith, (omega arith, (omega arith, (omega arith, tt)))))
      ((λ t. first_of (parsed-number form d e g t) (first_of (kind-number k out h i t) (philox-number form d e g t)))
      ∙ fourteen_last d e h i g)

-- ---- a move from a to b by way of the form s, which has its length exactly where a has
module _ (m : ℕ) (a : List ℕ) (n : ℕ) (b s : List ℕ) (forth : length a ≡ m → length s ≡ 104) (back : length s ≡ 104 → length a ≡ m) where
  fitting : Dec ((length a ≡ m) × (length b ≡ n))
  fitting = both (has_length m a) (has_length n b)

  move-number : (d : Dec ((length a ≡ m) × (length b ≡ n) → ⊥)) (e : Dec (when (wrong_mark s))) (g : Dec (when (wrong_group s)))
      → unless (length_refusal n b) (philox-form.loaded s).refusal 1
      ≡ lowest (wrong_lengths m a n b ∷ wrong_mark s ∷ wrong_group s ∷ []) (d, (e, (g, tt)))
  move-number (yes h) e g = elim (has_length n b) [
    | yes l ↦ ap (λ (r : ℕ). unless r (philox-form.loaded s).refusal 1) (length_yes b l)
        ∙ (philox-saved.refusals s).one (λ k. h (back k, l))
    | no q ↦ ap (λ (r : ℕ). unless r (philox-form.loaded s).refusal 1) (sym (length_no b q))
  ]
  move-number (no h) e g =
      let l = stable fitting h in
      ap (λ (r : ℕ). unless r (philox-form.loaded s).refusal 1) (length_yes b l.1) ∙ philox-number s (no (λ q. q (forth l.0))) e g

  on_move : {answer : ℤ} → answer ≡ answer_of (unless (length_refusal n b) (philox-form.loaded s).refusal 1) 0
      → Answers answer 0 (wrong_lengths m a n b ∷ wrong_mark s ∷ wrong_group s ∷ [])
  on_move =
      let d = not fitting in
      let e = mark_decided s in
      let g = group_decided s in
      on 0 (wrong_lengths m a n b ∷ wrong_mark s ∷ wrong_group s ∷ []) (d, (e, (g, tt))) (omega arith, (omega arith, (omega arith, tt)))
      (move-number d e g)

-- an old form has its length exactly where the form with its number has
module _ (old : List ℕ) where
  longer : length (with_number old) ≡ length old + 8
  longer = length-append old (le_bytes 8 (number_for (fields layout96 old)))

pub xoshiro_refusals : XoshiroRefusals
xoshiro_refusals =
    record {
      new = λ seed block form jumps answer form' jumps' c. only-length 256 form c.called.answers;
      fill = λ form k out answer form' out' c. on_xoshiro_fill form k out _ c.called.answers;
      jump_blocks = λ n form jumps answer form' jumps' c. on_xoshiro form c.called.answers;
      skip = λ n form answer form' c. on_xoshiro form c.answers;
    }

pub philox_refusals : PhiloxRefusals
philox_refusals =
    record {
      new = λ seed stream form answer form' c. only-length 104 form c.answers;
      fill = λ form k out answer form' out' c. on_philox_fill form k out _ c.called.answers;
      seek = λ n form answer form' c. on_philox form 0 c.answers;
      skip = λ n form answer form' c. on_philox form 0 c.answers;
      draws_left = λ form. on_philox form _ (value_read form (left-read form) _ refl);
      label = λ form first answer first' c. on_philox form _ (c.answers ∙ value_read form (half_read form) _ refl);
      from_96 = λ old form answer form' c.
          on_move 96 old 104 form (with_number old) (λ e. omega (arith, e, longer old)) (λ e. omega (arith, e, longer old)) c.answers;
      to_96 = λ form old answer old' c. on_move 104 form 96 old form (λ e. e) (λ e. e) c.answers;
    }

-- ---- the draws left, of a form that a seek left and of any form
-- a call that answers a value was accepted, and the value is its own
accepted : (r v n : ℕ) → pos n ≡ answer_of r v → (r ≡ 0) × (n ≡ v)
accepted zero v n e = (refl, ap nat_abs e)
accepted (suc r) v n e = absurd (pos-ne-negsuc n r e)

pub sought-left : SoughtLeft
sought-left n u64 form bytes form' c =
    let z = (accepted _ 0 0 c.answers).0 in
    let g = sought (philox-form.loaded form).value n in
    let saved = c.saves ∙ unless-none _ z (philox-form.form_of g) form in
    let read = ap philox-form.loaded saved ∙ restored g (sound_sought _ n u64 (sound_loaded form bytes z)) in
    ap (λ (x : Answer Philox4x32X8). answer_of x.refusal (left_of x.value)) read ∙ ap pos (left-sought _ n)

pub most-left : MostLeft
most-left form n e =
    let g = (philox-form.loaded form).value in
    omega (arith, (accepted (philox-form.loaded form).refusal (left_of g) n (sym e)).1, left-at-most g)

-- ---- the label that an accepted form tells
module _ {form : List ℕ} {first : ℕ} {answer : ℤ} {first' : ℕ} (c : philox.Labelled form first answer first') {n : ℕ}
    (a : answer ≡ pos n) where
  half : mark_in (fields philox-form.layout form) ≡ n
  half = let ok = accepted _ _ n (sym a ∙ c.answers) in sym (half_read form ok.0) ∙ sym ok.1

  block_of : {b : Bool} → eqb (mark_in (fields philox-form.layout form)) 1 ≡ b
      → first' ≡ cond b (number_in (fields philox-form.layout form)) (counter_in (fields philox-form.layout form))
  block_of e =
      let f = fields philox-form.layout form in
      let z = (accepted _ _ n (sym a ∙ c.answers)).0 in
      c.writes ∙ unless-none _ z _ first ∙ ap (λ (l : Label). l.first) (label-read form z)
      ∙ ap (λ (b : Bool). cond b (number_in f) (counter_in f)) e

pub label-first : LabelFirst
label-first form first answer first' c =
    let m = mark_in (fields philox-form.layout form) in
    record { upper = λ a. block_of c a (eq-eqb m 1 (half c a)); lower = λ a. block_of c a (ne_eqb m 1 (λ e. omega (arith, e, half c a))) }

-- ---- moved and moved back
pub moved_back : MovedBack
moved_back old form form' old₂ answer old₂' F e T =
    let z = (accepted _ 0 0 F.answers).0 in
    let back = philox-saved.moved_back old form form' old₂ old₂' _ (record {
      refuses = sym z;
      writes = F.saves
          ∙ unless-none _ z _ form;
    }) e
    (record { refuses = refl; writes = T.saves }) in
    (T.answers ∙ ap (λ (r : ℕ). answer_of r 0) back.0, back.1)

-- ---- a form that is not refused stays one
-- what a call leaves, by its refusal: the form of a sound generator, or the form that was there
left-accepted : (r : ℕ) (g : Philox4x32X8) (form : List ℕ) {form' : List ℕ} → Sound g → (philox-form.loaded form).refusal ≡ 0
    → form' ≡ unless r (philox-form.form_of g) form → (philox-form.loaded form').refusal ≡ 0
left-accepted zero g form s ok e = ap (λ (l : List ℕ). (philox-form.loaded l).refusal) e ∙ ap (λ (x : Answer Philox4x32X8). x.refusal) (restored g s)
left-accepted (suc r) g form s ok e = ap (λ (l : List ℕ). (philox-form.loaded l).refusal) e ∙ ok

pub stays-accepted : StaysAccepted
stays-accepted =
    record {
      fill = λ form b ok k out answer form' out' c.
          let s = iterate_keeps Sound next_of sound_next (bytes_draws k (length out)) _ (sound_loaded form b ok) in
          left-accepted (fill_refusal philox.forms form k out) _ form s ok c.called.saves;
      seek = λ form b ok n u64 answer form' c.
          left-accepted (philox-form.loaded form).refusal _ form (sound_sought _ n u64 (sound_loaded form b ok)) ok c.saves;
      skip = λ form b ok n answer form' c.
          let s = iterate_keeps Sound next_of sound_next n _ (sound_loaded form b ok) in
          left-accepted (philox-form.loaded form).refusal _ form s ok c.saves;
      from_96 = λ old form form' c.
          let z = (accepted _ 0 0 c.answers).0 in
          ap (λ (l : List ℕ). (philox-form.loaded l).refusal) (c.saves ∙ unless-none _ z _ form) ∙ moved-accepted 104 form _ (sym z);
    }
