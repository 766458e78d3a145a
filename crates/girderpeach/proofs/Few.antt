-- No number that refuses a form, a fill's kind and length, or a move is above 14. Assumes nothing.
use mathlib.Core.Bool.{Bool, true, false, cond, ◌&&◌}
use mathlib.Core.List.{List}
use mathlib.Core.Path.{◌≡◌}
use Prim.Native.Nat.{ℕ, zero, suc, ◌%◌, ◌≤◌}
use native.Mathlib.Omega.{arith}
use lib.Dec.{eqb, leb}
use lib.ListN.{length}
use Rattle.base.specs.Engine.{Engine}
use Rattle.base.specs.Every.{every}
use Rattle.base.specs.Refusal.{Answer}
use Rattle.base.specs.Refused.{unless}
use Rattle.base.specs.Table.{table}
use Rattle.fills.specs.FillBytes.{refusal_of, FilledBytes}
use Rattle.fills.specs.Kinds.{kinds, kind_at}
use Rattle.philox.specs.declared.x8.Philox4x32X8.{Philox4x32X8}
use Rattle.saved.specs.fields.Fields.{fields}
use Rattle.saved.specs.fields.Saved.{length_refusal}
use Rattle.saved.specs.philox4x32.Form as philox-form
use Rattle.saved.specs.philox4x32.Form.{refused, parsed, is_numbered}
use Rattle.saved.proofs.philox4x32.Form.{parsed_cases}
use Rattle.saved.specs.xoshiro256pp.Form.{layout, lane_in, loaded}
use Rattle.xoshiro.specs.declared.scalar.Xoshiro256pp.{Xoshiro256pp}
use Rattle.xoshiro.specs.declared.x8.Xoshiro256ppX8.{Xoshiro256ppX8}
use Rattle.xoshiro.specs.x8.Calls.{is_valid, from_lanes, of_lanes, blank8}
use Rattle.girderpeach.specs.Host.{Forms}
use Rattle.girderpeach.specs.Philox as philox
use Rattle.girderpeach.specs.Xoshiro as xoshiro
use Rattle.girderpeach.proofs.Engines.{xoshiro_sized, philox_sized}

-- ---- the length of a form
pub few_length : (n : ℕ) (s : List ℕ) {r : ℕ} → r ≡ length_refusal n s → r ≤ 14
few_length n s {r} e = go (eqb (length s) n) e
  where
    go : (b : Bool) → r ≡ cond b 0 1 → r ≤ 14
    go true e = omega arith
    go false e = omega arith

-- ---- an engine's forms: refused with 1 to 14, and an accepted one has its length
pub record Sound {G : Type 0} (H : Forms G) (n : ℕ) : Type 0 where
  pub few : (s : List ℕ) → H.refusal s ≤ 14
  pub sized : (s : List ℕ) → H.refusal s ≡ 0 → length_refusal n s ≡ 0

pub few_form : {G : Type 0} {H : Forms G} {n : ℕ} → Sound H n → (s : List ℕ) {r : ℕ} → r ≡ H.refusal s → r ≤ 14
few_form S s e = omega (arith, S.few s)

from_lanes_lem : (lanes : List Xoshiro256pp) → (from_lanes lanes).refusal ≤ 14
unfolding from_lanes
from_lanes_lem lanes = go (every is_valid lanes)
  where
    go : (b : Bool) → (cond {A = Answer Xoshiro256ppX8} b (record { refusal = 0; value = of_lanes lanes })
        (record { refusal = 3; value = blank8 })).refusal ≤ 14
    go true = omega arith
    go false = omega arith

pub xoshiro_sound : Sound xoshiro.forms 256
unfolding loaded
xoshiro_sound = record { few = λ s. few (eqb (length s) 256) s; sized = xoshiro_sized.sized }
  where
    few : (b : Bool) (s : List ℕ) → (cond {A = Answer Xoshiro256ppX8} b (from_lanes (table 8 (lane_in (fields layout s))))
        (record { refusal = 1; value = blank8 })).refusal ≤ 14
    few true s = from_lanes_lem (table 8 (lane_in (fields layout s)))
    few false s = omega arith

pub philox_sound : Sound philox.forms 104
unfolding philox-form.loaded
philox_sound = record { few = λ s. few s (is_numbered (parsed s).value); sized = philox_sized.sized }
  where
    few : (s : List ℕ) (b : Bool) → (cond {A = Answer Philox4x32X8} b (parsed s) (refused 14)).refusal ≤ 14
    few s true = parsed_cases (λ r. r.refusal ≤ 14) s (omega arith) (omega arith) (omega arith)
    few s false = omega arith

-- what the bytes of a Philox form tell, and a move
pub few_parsed : (s : List ℕ) {told : Answer Philox4x32X8} → told ≡ parsed s → told.refusal ≤ 14
few_parsed s e = rw e (parsed_cases (λ r. r.refusal ≤ 14) s (omega arith) (omega arith) (omega arith))

pub few_moved : (n : ℕ) (to s : List ℕ) {r : ℕ} → r ≡ unless (length_refusal n to) (philox-form.loaded s).refusal 1 → r ≤ 14
few_moved n to s e = rw e (go (length_refusal n to))
  where
    go : (r : ℕ) → unless r (philox-form.loaded s).refusal 1 ≤ 14
    go zero = philox_sound.few s
    go (suc r) = omega arith

-- ---- a kind and a length
pub few_kind_refusals : (k n : ℕ) {r : ℕ} → r ≡ refusal_of k n → r ≤ 14
unfolding refusal_of
few_kind_refusals k n e = rw e (go (leb 1 k && leb k (length kinds)) (eqb (n % (kind_at k).kind.width) 0))
  where
    go : (a b : Bool) → cond a (cond b 0 5) 4 ≤ 14
    go true true = omega arith
    go true false = omega arith
    go false b = omega arith

pub few_kind : {G : Type 0} {E : Engine G} {k : ℕ} {g g' : G} {out out' : List ℕ} {r draws : ℕ}
    → FilledBytes E k g out out' r draws g' → r ≤ 14
few_kind {k = k} {out = out} F = few_kind_refusals k (length out) F.refuses
