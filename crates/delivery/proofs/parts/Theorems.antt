-- The claims of specs/parts/Claims.antt. Assumes nothing.
use Rattle.std.proofs.Common.{◌≡◌, ℕ, ◌+◌, ◌-◌, ◌*◌, ◌%◌, ◌^◌, ◌<◌, ◌≤◌, Bool, true, false, cond, List, [], ◌∷◌, ◌++◌, length, take, sym, refl, ap, ◌∙◌, subst, append_assoc, append-nil, mod-eq_of_lt, zero-mul, arith, take_at}
use native.Mathlib.Decide.{ℕ_discrete}
use native.Mathlib.Nat.{mul-mod_left}
use Rattle.base.specs.Engine.{words_from}
use Rattle.base.specs.Iterate.{iterate}
use Rattle.base.specs.Lists.{Each, none, then}
use Rattle.base.proofs.Iterate.{iterate-then}
use Rattle.base.proofs.Lists.{along}
use Rattle.fills.specs.FillBytes.{bytes_written, bytes_draws}
use Rattle.fills.specs.Kinds.{kinds}
use Rattle.text.proofs.lines.Theorems.{lines_append}
use Rattle.delivery.specs.source.Source.{next_of, start_of, either}
use Rattle.delivery.specs.declared.source.Source.{Source}
use Rattle.delivery.specs.parts.Delivery.{width_of, bytes_in, draws_in, shown, left_after, text_room, next_places}
use Rattle.delivery.specs.parts.Claims.{OneFill, TwoFills, TwoOrders, Call, Step, Run}
use Rattle.delivery.specs.parts.Claims.{rest_of, handed_by, joined_in, Joined, Useful, Stops}
use Rattle.delivery.specs.declared.parts.Delivery.{Delivery}
use Rattle.delivery.proofs.parts.Joining.{none-drawn, none_written, length_written, whole_16, whole-then, then-none}
use Rattle.delivery.proofs.parts.Room.{Fits, fits}
use Rattle.delivery.proofs.parts.Shown.{shown-none}

pub two_fills : TwoFills
two_fills G E g k n m h = whole-then E g k n m h

-- n places are whole elements
whole-bytes : (k n : ℕ) (W : ℕ → List ℕ) → length (bytes_written k W (n * width_of k)) % width_of k ≡ 0
whole-bytes k n W = ap (λ (x : ℕ). x % width_of k) (length_written k W n) ∙ mul-mod_left n (width_of k)

-- elements are written one by one
shown_both : (raw : Bool) (k : ℕ) (a b : List ℕ) → length a % width_of k ≡ 0 → shown raw k (a ++ b) ≡ shown raw k a ++ shown raw k b
shown_both true k a b h = refl
shown_both false k a b h = lines_append k a b h

pub two_orders : TwoOrders
two_orders raw engine seed block first k n m h =
    let s : Source = iterate next_of first (start_of engine seed block) in
    let w : ℕ = width_of k in
    let f : List ℕ → List ℕ = shown raw k in
    let after = sym (iterate-then next_of first (bytes_draws k (n * w)) (start_of engine seed block)) in
    ap f (whole-then either s k n m h).bytes
    ∙ shown_both raw k (bytes_written k (words_from either s) (n * w)) _ (whole-bytes k n (words_from either s))
    ∙ ap (λ (x : Source). f (bytes_written k (words_from either s) (n * w)) ++ f (bytes_written k (words_from either x) (m * w))) after

-- ---- a delivery with nothing left
module _ (d : Delivery) (e : d.left ≡ 0) where
  no_bytes : d.left * width_of d.kind ≡ 0
  no_bytes = ap (λ (n : ℕ). n * width_of d.kind) e ∙ zero-mul (width_of d.kind)

  nothing_shown : shown d.raw d.kind (bytes_in d d.left) ≡ []
  nothing_shown =
      let W = words_from either d.source in
      ap (shown d.raw d.kind) (ap (bytes_written d.kind W) no_bytes ∙ none_written d.kind W)
      ∙ shown-none d.kind d.raw

  nothing_drawn : draws_in d d.left ≡ 0
  nothing_drawn = ap (bytes_draws d.kind) no_bytes ∙ none-drawn d.kind

-- ---- a part and what is left after it
module _ (d : Delivery) (s : Call) (P : Step d s) where
  abbrev places : ℕ
  places = next_places d (length s.values) (length s.out)

  room : Fits d.kind d.left (cond d.raw (length s.out) (text_room d.kind (length s.values) (length s.out))) places
  unfolding next_places
  room = fits d.kind d.left (cond d.raw (length s.out) (text_room d.kind (length s.values) (length s.out)))

  -- the fill of the part and that of the rest are the whole fill
  parted : OneFill either d.source d.kind places (d.left - places)
  parted = go (ℕ_discrete places d.left)
    where
      go : Dec (places ≡ d.left) → OneFill either d.source d.kind places (d.left - places)
      go (yes e) = subst (OneFill either d.source d.kind places) (omega arith) (then-none either d.source d.kind places)
      go (no h) = whole-then either d.source d.kind places (d.left - places) (whole_16 d.kind places (room.whole h))

  all_places : d.left ≡ places + (d.left - places)
  all_places = omega (arith, room.few)

  -- what was handed out
  handed : handed_by s ≡ shown d.raw d.kind (bytes_in d places)
  handed =
      ap (take s.part.bytes) P.writes ∙ take_at (shown d.raw d.kind (bytes_in d places)) _ s.part.bytes (sym P.count)

  shown_parts : shown d.raw d.kind (bytes_in d d.left)
      ≡ handed_by s ++ shown s.part.rest.raw s.part.rest.kind (bytes_in s.part.rest s.part.rest.left)
  shown_parts =
      let k : ℕ = d.kind in
      let W = words_from either d.source in
      ap (λ (n : ℕ). shown d.raw k (bytes_in d n)) all_places
      ∙ ap (shown d.raw k) parted.bytes
      ∙ shown_both d.raw k (bytes_in d places) _ (whole-bytes k places W)
      ∙ ap (λ (l : List ℕ). l ++ shown d.raw k (bytes_in (left_after d places) (d.left - places))) (sym handed)
      ∙ ap (λ (x : Delivery). handed_by s ++ shown x.raw x.kind (bytes_in x x.left)) (sym P.remains)

  draws_parts : draws_in d d.left ≡ draws_in d places + draws_in s.part.rest s.part.rest.left
  draws_parts =
      ap (draws_in d) all_places ∙ parted.draws ∙ ap (λ (x : Delivery). draws_in d places + draws_in x x.left) (sym P.remains)

  source_parts : iterate next_of (draws_in d d.left) d.source
      ≡ iterate next_of (draws_in s.part.rest s.part.rest.left) s.part.rest.source
  source_parts =
      ap (λ (n : ℕ). iterate next_of n d.source) draws_parts
      ∙ iterate-then next_of (draws_in d places) (draws_in s.part.rest s.part.rest.left) d.source
      ∙ ap (iterate next_of (draws_in s.part.rest s.part.rest.left)) (sym (ap (λ (x : Delivery). x.source) P.remains))

  -- the draws are counted where they are not too many
  counted_parts : d.draws + draws_in d d.left < 2 ^ 64
      → s.part.rest.draws + draws_in s.part.rest s.part.rest.left ≡ d.draws + draws_in d d.left
  counted_parts h =
      let n : ℕ = draws_in d places in
      let few : d.draws + n < 2 ^ 64 = omega (arith, draws_parts) in
      let e : s.part.rest.draws ≡ d.draws + n = ap (λ (x : Delivery). x.draws) P.remains ∙ mod-eq_of_lt few in
      omega (arith, e, draws_parts)

-- ---- a run
-- what was handed out so far and the fill of what is left are the whole fill, and the draws of what is left end where its draws end
record SoFar (d : Delivery) (calls : List Call) : Type 0 where
  shows : shown d.raw d.kind (bytes_in d d.left)
      ≡ joined_in calls ++ shown (rest_of d calls).raw (rest_of d calls).kind (bytes_in (rest_of d calls) (rest_of d calls).left)
  source : iterate next_of (draws_in d d.left) d.source
      ≡ iterate next_of (draws_in (rest_of d calls) (rest_of d calls).left) (rest_of d calls).source
  draws : d.draws + draws_in d d.left < 2 ^ 64
      → (rest_of d calls).draws + draws_in (rest_of d calls) (rest_of d calls).left ≡ d.draws + draws_in d d.left
  first : (rest_of d calls).first ≡ d.first

pub joined : Joined
unfolding iterate
joined d calls r e =
    let w = along r (SoFar d) (record { shows = refl; source = refl; draws = λ h. refl; first = refl }) more in
    let rest : Delivery = rest_of d calls in
    let none = nothing_drawn rest e in
    record {
      handed = sym (w.shows ∙ ap (λ (l : List ℕ). joined_in calls ++ l) (nothing_shown rest e) ∙ append-nil (joined_in calls));
      source = sym (w.source ∙ ap (λ (n : ℕ). iterate next_of n rest.source) none);
      draws = λ h. omega (arith, w.draws h, none);
      first = w.first;
    }
  where
    more : (s : Call) (calls : List Call) → SoFar d calls → Step (rest_of d calls) s → SoFar d (s ∷ calls)
    more s calls w P =
        let rest : Delivery = s.part.rest in
        record {
          shows =
              w.shows
              ∙ ap (λ (l : List ℕ). joined_in calls ++ l) (shown_parts (rest_of d calls) s P)
              ∙ sym (append_assoc (joined_in calls) (handed_by s) (shown rest.raw rest.kind (bytes_in rest rest.left)));
          source = w.source ∙ source_parts (rest_of d calls) s P;
          draws = λ h. counted_parts (rest_of d calls) s P (omega (arith, w.draws h)) ∙ w.draws h;
          first = ap (λ (x : Delivery). x.first) P.remains ∙ w.first;
        }

-- ---- each useful call leaves less
record Less (d : Delivery) (calls : List Call) : Type 0 where
  kind : (rest_of d calls).kind ≡ d.kind
  less : length calls + (rest_of d calls).left ≤ d.left

pub stops : Stops
stops d calls least most r u = (go r u).less
  where
    go : {calls : List Call} → Run d calls → Each (λ earlier s. Useful (rest_of d earlier) s) calls → Less d calls
    go none u = record { kind = refl; less = omega arith }
    go (then {c = s} {calls = calls} r P) u =
        let w = go r u.1 in
        let least' = subst (λ (k : ℕ). 1 ≤ k) (sym w.kind) least in
        let most' = subst (λ (k : ℕ). k ≤ length kinds) (sym w.kind) most in
        let some : 0 < s.part.bytes = P.some least' most' u.0.values u.0.out u.0.left in
        record { kind = ap (λ (x : Delivery). x.kind) P.remains ∙ w.kind; less = omega (arith, w.less, P.lessens some) }
