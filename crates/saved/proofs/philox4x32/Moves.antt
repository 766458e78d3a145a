-- The moves between forms of 96 and of 104 bytes. Assumes nothing.
use Rattle.std.proofs.Common.{◌≡◌, ℕ, ◌+◌, ◌-◌, ◌%◌, ◌^◌, Bool, true, false, cond, eqb, List, ◌++◌, length, take, drop, replicate, sym, refl, ap, ◌∙◌, arith, length-append, take_at, eq-eqb, ne_eqb}
use Rattle.base.specs.Bytes.{le_bytes, le_nat}
use Rattle.base.specs.Refusal.{Answer}
use Rattle.base.specs.Refused.{unless}
use Rattle.base.specs.Stored.{stored}
use Rattle.base.proofs.Refused.{unless-none, unless-some}
use Rattle.base.proofs.Stored.{stored-two, stored-whole, stored-first}
use Rattle.saved.specs.fields.Fields.{fields_at, fields}
use Rattle.saved.specs.fields.Saved.{length_refusal, Written}
use Rattle.philox.specs.declared.x8.Philox4x32X8.{Philox4x32X8}
use Rattle.saved.specs.philox4x32.Claims.{MovedBack}
use Rattle.saved.specs.philox4x32.Form.{loaded}
use Rattle.saved.specs.philox4x32.Moves.{layout96, number_for, with_number}
use Rattle.saved.proofs.philox4x32.Form.{load_short, load-accepted}

-- ---- the number that an old form gets, by its mark
number_by : (s : List ℕ) {mark : ℕ} {b : Bool} → mark ≡ le_nat (take 8 (drop 24 s)) → eqb mark 1 ≡ b
    → number_for (fields layout96 s) ≡ cond b ((le_nat (take 8 (drop 16 s)) + (2 ^ 64 - 8)) % 2 ^ 64) 0
unfolding fields_at
number_by s em eb = ap (λ (b : Bool). cond b ((le_nat (take 8 (drop 16 s)) + (2 ^ 64 - 8)) % 2 ^ 64) 0)
    (ap (λ (m : ℕ). eqb m 1) (sym em) ∙ eb)

pub number_waiting : (s : List ℕ) {mark counter number : ℕ} → mark ≡ le_nat (take 8 (drop 24 s)) → mark ≡ 1
    → counter ≡ le_nat (take 8 (drop 16 s))
    → number ≡ (counter + 0xFFFF_FFFF_FFFF_FFF8) % 2 ^ 64 → number ≡ number_for (fields layout96 s)
number_waiting s {mark} em e1 ec en =
    en ∙ ap (λ (c : ℕ). (c + 0xFFFF_FFFF_FFFF_FFF8) % 2 ^ 64) ec ∙ sym (number_by s em (eq-eqb mark 1 e1))

pub number-none : (s : List ℕ) {mark : ℕ} → mark ≡ le_nat (take 8 (drop 24 s)) → (mark ≡ 1 → ⊥) → 0 ≡ number_for (fields layout96 s)
number-none s {mark} em e1 = sym (number_by s em (ne_eqb mark 1 e1))

-- ---- an old form with its number, stored
pub number_put : (old : List ℕ) {copied out : List ℕ} {n : ℕ} → length old ≡ 96 → copied ≡ old → n ≡ number_for (fields layout96 old)
    → out ≡ stored (copied ++ replicate 8 0) 96 (le_bytes 8 n) → out ≡ with_number old
number_put old {copied} {out} {n} eo ec en e =
    let N = le_bytes 8 (number_for (fields layout96 old)) in
    let zeros : List ℕ = replicate 104 0 in
    let first : copied ++ replicate 8 0 ≡ stored zeros 0 old = ap (λ (l : List ℕ). l ++ replicate 8 0) ec
    ∙ ap (λ (k : ℕ). old ++ drop k zeros) (sym eo) ∙ sym (stored-first zeros old (omega arith)) in
    let both = stored-two zeros 0 old N first (omega arith) (e ∙ ap (λ (k : ℕ). stored (copied ++ replicate 8 0) 96 (le_bytes 8 k)) en) in
    both ∙ stored-whole zeros (old ++ N) (omega (arith, length-append old N))

-- ---- a move into a slice: another length of the slice, then what loading refuses
abbrev move_refusal : ℕ → List ℕ → ℕ → ℕ
move_refusal n to refusal = unless (length_refusal n to) refusal 1

move_by : (n : ℕ) (to : List ℕ) (refusal : ℕ) {b : Bool} → eqb (length to) n ≡ b → move_refusal n to refusal ≡ unless (cond b 0 1) refusal 1
move_by n to refusal e = ap (λ (b : Bool). unless (cond b 0 1) refusal 1) e

pub move_short : (n refusal : ℕ) {new to : List ℕ} → (length to ≡ n → ⊥) → Written (move_refusal n to refusal) new to to 1
move_short n refusal {new} {to} h = record { refuses = sym (move_by n to refusal (ne_eqb (length to) n h)); writes = refl }

pub move-refused : (n : ℕ) {refusal r : ℕ} {new to : List ℕ} → length to ≡ n → r ≡ refusal → (r ≡ 0 → ⊥)
    → Written (move_refusal n to refusal) new to to r
move-refused n {refusal} {r} {new} {to} e er h =
    record { refuses = er ∙ sym (move_by n to refusal (eq-eqb (length to) n e)); writes = sym (unless-some r h new to) }

pub move_done : (n : ℕ) {refusal r : ℕ} {new to to' : List ℕ} → length to ≡ n → r ≡ refusal → r ≡ 0 → to' ≡ new
    → Written (move_refusal n to refusal) new to to' 0
move_done n {refusal} {r} {new} {to} e er z w =
    record { refuses = sym z ∙ er ∙ sym (move_by n to refusal (eq-eqb (length to) n e)); writes = w }

-- a move that is accepted had its length, and nothing to refuse
pub accepted : (n : ℕ) (to : List ℕ) (refusal : ℕ) → 0 ≡ move_refusal n to refusal → refusal ≡ 0
accepted n to refusal = go (eqb (length to) n)
  where
    go : (b : Bool) → 0 ≡ unless (cond b 0 1) refusal 1 → refusal ≡ 0
    go true e = sym e
    go false e = absurd (omega arith)

-- an old form of another length has no form of 104 bytes
pub old_short : (old : List ℕ) → (length old ≡ 96 → ⊥) → 1 ≡ (loaded (with_number old)).refusal
old_short old h =
    let N = le_bytes 8 (number_for (fields layout96 old)) in
    ap (λ (r : Answer Philox4x32X8). r.refusal) (load_short (with_number old) (λ e. h (omega (arith, e, length-append old N))))

-- ---- moved and moved back
pub back : MovedBack
back old form form' old₂ old₂' r F e T =
    let N = le_bytes 8 (number_for (fields layout96 old)) in
    let ok = accepted 104 form (loaded (with_number old)).refusal F.refuses in
    let long : length old ≡ 96 = omega (arith, (load-accepted (with_number old) ok).long, length-append old N) in
    let z : r ≡ 0 = T.refuses ∙ move_by 96 old₂ (loaded form').refusal (eq-eqb (length old₂) 96 e)
    ∙ ap (λ (s : List ℕ). (loaded s).refusal) F.writes ∙ ok in
    (z, T.writes ∙ unless-none r z _ old₂ ∙ ap (take 96) F.writes ∙ take_at old N 96 long)
