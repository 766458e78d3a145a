-- A part as it is written: the bytes of its values, or their lines. Assumes nothing.
use Rattle.std.proofs.Common.{◌≡◌, ℕ, zero, suc, ◌-◌, ◌*◌, ◌/◌, ◌%◌, ◌<◌, ◌≤◌, Bool, true, false, cond, ◌&&◌, leb, List, [], ◌∷◌, ◌++◌, length, take, drop, sym, refl, ap, ◌∙◌, subst, append_assoc, mul-le-mul_right, mul_comm, zero-add, zero-mul, le_of_mul-le-mul_right, mul-div_cancel, arith, length-append, take-append-drop, length-take-le, take_at, eq-eqb, ne_eqb}
use native.Mathlib.Nat.{zero-div}
use native.Mathlib.Nat.{mul-mod_left}
use lib.Seq.{length_front, drop-append-le}
use Rattle.base.specs.Bytes.{flat}
use Rattle.base.specs.Put.{Put, given}
use Rattle.base.specs.Table.{table}
use Rattle.base.specs.Engine.{words_from}
use Rattle.base.proofs.Put.{put_length, put_shown, given_no}
use Rattle.fills.specs.FillBytes.{elements, bytes_written}
use Rattle.fills.specs.Kinds.{is_kind}
use Rattle.fills.proofs.Sounds.{row}
use Rattle.fills.proofs.kinds.Numbers as numbers
use Rattle.text.specs.lines.Lines.{text_of, line, value_at, lines_of, accepted, ends_of, Counts}
use Rattle.text.proofs.lines.Laws.{all_accepted, counts}
use Rattle.delivery.specs.source.Source.{either}
use Rattle.delivery.specs.parts.Delivery.{width_of, places_of, bytes_in, shown, left_after}
use Rattle.delivery.specs.parts.Delivery.{text_room, next_places, at_start, closing_of, FilledPart, NextPart}
use Rattle.delivery.specs.declared.parts.Delivery.{Delivery}
use Rattle.delivery.proofs.parts.Joining.{none_written, length_written}
use Rattle.delivery.proofs.parts.Room.{fits, no_kind, width-most}

-- ---- none and some
module _ (k : ℕ) where
  pub no_lines : lines_of k [] ≡ []
  unfolding lines_of flat table
  no_lines = ap (λ (n : ℕ). flat (line k) (table n (value_at (width_of k) []))) (zero-div (width_of k))

  pub shown-none : (raw : Bool) → shown raw k [] ≡ []
  shown-none true = refl
  shown-none false = no_lines

  line-some : (b : ℕ) → 0 < length (line k b)
  unfolding line
  line-some b = omega (arith, length-append (text_of k b) (10 ∷ []))

  lines_some : (l : List ℕ) (n : ℕ) → length l / width_of k ≡ n → 0 < n → 0 < length (lines_of k l)
  unfolding lines_of flat table
  lines_some l zero e h = absurd (omega arith)
  lines_some l (suc n) e h =
      let f : ℕ → ℕ = value_at (width_of k) l in
      let t : List ℕ = flat (line k) (table n (λ i. f (suc i))) in
      subst (λ (m : ℕ). 0 < length (flat (line k) (table m f))) (sym e) (omega (arith, length-append (line k (f 0)) t, line-some (f 0)))

  module _ (W : ℕ → List ℕ) (n : ℕ) where
    held : length (bytes_written k W (n * width_of k)) / width_of k ≡ n
    held = ap (λ (x : ℕ). x / width_of k) (length_written k W n) ∙ mul-div_cancel n (row k).wide

    shown-some : (raw : Bool) → 0 < n → 0 < length (shown raw k (bytes_written k W (n * width_of k)))
    shown-some true h = omega (arith, length_written k W n, mul-le-mul_right (width_of k) h, (row k).wide)
    shown-some false h = lines_some (bytes_written k W (n * width_of k)) n held h

-- ---- the room that a part in text has
module _ (k values out : ℕ) {w : ℕ} (e : w ≡ width_of k) where
  pub text_fits : w ≤ 8 → out / 25 * w ≤ out
  text_fits h = let q : ℕ = out / 25 in omega (arith, mul-le-mul_right q h, mul_comm w q)

  pub by_values : values < out / 25 * w → (values ≡ text_room k values out) × (values ≤ values)
  by_values h = let q : out / 25 * w ≡ out / 25 * width_of k = ap (λ (x : ℕ). out / 25 * x) e in omega arith

  pub by_text : out / 25 * w ≤ values → (out / 25 * w ≡ text_room k values out) × (out / 25 * w ≤ values)
  by_text h = let q : out / 25 * w ≡ out / 25 * width_of k = ap (λ (x : ℕ). out / 25 * x) e in omega arith

room_enough : (k values out : ℕ) (raw : Bool) → 128 ≤ values → 400 ≤ out → 16 * width_of k ≤ cond raw out (text_room k values out)
room_enough k values out true h g = omega (arith, width-most k)
room_enough k values out false h g = let q : 16 ≤ out / 25 = omega arith in omega (arith, width-most k, mul-le-mul_right (width_of k) q)

-- ---- what a caller may count on
module _ (d : Delivery) (values out : List ℕ) where
  abbrev n : ℕ
  n = next_places d (length values) (length out)

  abbrev part : List ℕ
  part = shown d.raw d.kind (bytes_in d n)

  part_none : n ≡ 0 → length part ≡ 0
  part_none e =
      let W = words_from either d.source in
      ap length (ap (λ (x : ℕ). shown d.raw d.kind (bytes_in d x)) e
      ∙ ap (shown d.raw d.kind) (ap (bytes_written d.kind W) (zero-mul (width_of d.kind)) ∙ none_written d.kind W)
      ∙ shown-none d.kind d.raw)

  pub promised : {values' out' : List ℕ} {bytes : ℕ} {rest : Delivery}
      → values' ≡ cond d.raw values (at_start (bytes_in d n) values) → length values' ≡ length values → out' ≡ at_start part out
      → bytes ≡ length part
      → length part ≤ length out → rest ≡ left_after d n → NextPart d values values' out out' bytes rest
  unfolding next_places
  promised {values'} {out'} {bytes} {rest} ev ew eo eb room er =
      let k : ℕ = d.kind in
      let f = fits k d.left (cond d.raw (length out) (text_room k (length values) (length out))) in
      let same : length out' ≡ length out =
      ap length eo ∙ length_front out part (length part) (sym (length-take-le (length part) out room)) in
      let inside : bytes ≤ length out' = omega (arith, same) in
      record {
        makes = ev;
        writes = eo;
        count = eb;
        remains = er;
        same = (ew, same);
        inside = inside;
        long = sym (length-take-le bytes out' inside);
        lessens = λ h. some_left n refl h;
        some = λ a b c e l.
            let h = f.some a b (room_enough k (length values) (length out) d.raw c e) l in
            omega (arith, eb, shown-some k (words_from either d.source) n d.raw h);
      }
    where
      some_left : (m : ℕ) → n ≡ m → 0 < bytes → rest.left < d.left
      some_left zero e h = absurd (omega (arith, part_none e))
      some_left (suc m) e h =
          let q : rest.left ≡ d.left - n = ap (λ (x : Delivery). x.left) er in
          omega (arith, q, (fits d.kind d.left (cond d.raw (length out) (text_room d.kind (length values) (length out)))).few)

-- ---- with `raw`
pub raw-part : {d rest : Delivery} {values out out' : List ℕ} {bytes : ℕ} → d.raw ≡ true → FilledPart d out out' bytes rest
    → NextPart d values values out out' bytes rest
unfolding next_places
raw-part {d} {rest} {values} {out} {out'} {bytes} e F =
    let k : ℕ = d.kind in
    let W = words_from either d.source in
    let p : ℕ = places_of k d.left (length out) in
    let n = next_places d (length values) (length out) in
    let en : n ≡ p = ap (λ (b : Bool). places_of k d.left (cond b (length out) (text_room k (length values) (length out)))) e in
    let l : length (bytes_in d p) ≡ bytes = length_written k W p ∙ sym F.count in
    let shows : shown d.raw k (bytes_in d n) ≡ bytes_in d p = (λ i. shown (e i) k (bytes_in d (en i))) in
    let room : bytes ≤ length out = omega (arith, F.count, (fits k d.left (length out)).room) in
    promised d values out
    (sym (ap (λ (b : Bool). cond b values (at_start (bytes_in d n) values)) e))
    refl
    (F.writes ∙ ap (λ (x : ℕ). bytes_in d p ++ drop x out) (sym l) ∙ ap (λ (t : List ℕ). at_start t out) (sym shows))
    (sym (ap length shows ∙ l))
    (omega (arith, ap length shows, l, room))
    (F.remains ∙ ap (left_after d) (sym en))

-- ---- in text
-- lines of values for which there is room, or of none, are all put
module _ (k : ℕ) (l out : List ℕ) where
  all_put : {out' : List ℕ} {r : ℕ} → (is_kind k ≡ false → l ≡ []) → length l % width_of k ≡ 0 → 25 * elements k (length l) ≤ length out
      → Put (given (accepted k (length l) (length out)) (lines_of k l)) 0 out out' r → Put (lines_of k l) 0 out out' r
  unfolding given
  all_put {out'} {r} none whole room P = go (is_kind k) refl
    where
      none-given : (b : Bool) → lines_of k l ≡ [] → given b (lines_of k l) ≡ lines_of k l
      none-given true e = refl
      none-given false e = sym e

      go : (b : Bool) → b ≡ is_kind k → Put (lines_of k l) 0 out out' r
      go true e =
          let a : accepted k (length l) (length out) ≡ true =
          all_accepted k (length l) (length out) refl (sym (numbers.accepted k (length l) e refl refl whole)) room in
          subst (λ (b : Bool). Put (given b (lines_of k l)) 0 out out' r) a P
      go false e =
          let z : lines_of k l ≡ [] = ap (lines_of k) (none (sym e)) ∙ no_lines k in
          subst (λ (t : List ℕ). Put t 0 out out' r) (none-given (accepted k (length l) (length out)) z) P

-- what stands behind a part of a part of a buffer
behind : (n m : ℕ) (l : List ℕ) → n ≤ m → m ≤ length l → drop n (take m l) ++ drop m l ≡ drop n l
behind n m l h g = sym (drop-append-le n (take m l) (drop m l) (omega (arith, length-take-le m l g))) ∙ ap (drop n) (take-append-drop m l)

module _ (d : Delivery) (values out : List ℕ) {rest : Delivery} {mid : List ℕ} {room bytes : ℕ}
    (er : room ≡ text_room d.kind (length values) (length out)) (F : FilledPart d (take room values) mid bytes rest) where
  abbrev k' : ℕ
  k' = d.kind

  abbrev p' : ℕ
  p' = places_of d.kind d.left (length (take room values))

  in_values : room ≤ length values
  in_values = omega arith

  long_room : length (take room values) ≡ room
  long_room = length-take-le room values in_values

  few : bytes ≤ room
  few = omega (arith, F.count, (fits k' d.left (length (take room values))).room, long_room)

  long-part : length (bytes_in d p') ≡ bytes
  long-part = length_written k' (words_from either d.source) p' ∙ sym F.count

  stands : mid ++ drop room values ≡ bytes_in d p' ++ drop bytes values
  stands =
      ap (λ (l : List ℕ). l ++ drop room values) F.writes
      ∙ append_assoc (bytes_in d p') (drop bytes (take room values)) (drop room values)
      ∙ ap (λ (l : List ℕ). bytes_in d p' ++ l) (behind bytes room values few in_values)

  pub part_taken : take bytes (mid ++ drop room values) ≡ bytes_in d p'
  part_taken = ap (take bytes) stands ∙ take_at (bytes_in d p') (drop bytes values) bytes long-part

  pub part-inside : bytes ≤ length (mid ++ drop room values)
  part-inside = omega (arith, ap length stands, length-append (bytes_in d p') (drop bytes values), long-part)

  -- 25 bytes for each
  lines_room : 25 * elements k' (length (bytes_in d p')) ≤ length out
  lines_room =
      let q : ℕ = length out / 25 in
      let c : elements k' (length (bytes_in d p')) ≡ p' = held k' (words_from either d.source) p' in
      let h : p' * width_of k' ≤ q * width_of k' = omega (arith, F.count, few) in
      omega (arith, c, le_of_mul-le-mul_right h (row k').wide)

  pub text_part : {out' : List ℕ} {r : ℕ} → d.raw ≡ false
      → Put
      (given (accepted k' (length (take bytes (mid ++ drop room values))) (length out)) (lines_of k' (take bytes (mid ++ drop room values))))
      0 out out' r
      → Counts r out'
      → NextPart d values (mid ++ drop room values) out out' r rest
  unfolding next_places
  text_part {out'} {r} e P C =
      let W = words_from either d.source in
      let fill = bytes_in d p' in
      let n = next_places d (length values) (length out) in
      let ep : p' ≡ n =
      ap (places_of k' d.left) (long_room ∙ er)
      ∙ sym (ap (λ (b : Bool). places_of k' d.left (cond b (length out) (text_room k' (length values) (length out)))) e) in
      let shows : lines_of k' fill ≡ shown d.raw k' (bytes_in d n) = (λ i. shown (sym e i) k' (bytes_in d (ep i))) in
      let whole : length fill % width_of k' ≡ 0 = ap (λ (x : ℕ). x % width_of k') (length_written k' W p') ∙ mul-mod_left p' (width_of k') in
      let none : is_kind k' ≡ false → fill ≡ [] = λ h.
      ap (λ (x : ℕ). bytes_in d x) (no_kind k' d.left (length (take room values)) refl h)
      ∙ ap (bytes_written k' W) (zero-mul (width_of k'))
      ∙ none_written k' W in
      let given-fill =
      subst (λ (l : List ℕ). Put (given (accepted k' (length l) (length out)) (lines_of k' l)) 0 out out' r) part_taken P in
      let put : Put (lines_of k' fill) 0 out out' r = all_put k' fill out none whole lines_room given-fill in
      let er' : r ≡ length (lines_of k' fill) = omega (arith, put.next) in
      let room' : length (lines_of k' fill) ≤ length out = omega (arith, C.0, put_length put) in
      let made : out' ≡ lines_of k' fill ++ drop (length (lines_of k' fill)) out =
      put_shown put (omega arith) ∙ ap (λ (x : ℕ). lines_of k' fill ++ drop x out) (zero-add (length (lines_of k' fill))) in
      promised d values out
      (stands
      ∙ ap (λ (x : ℕ). fill ++ drop x values) (sym long-part)
      ∙ ap (λ (x : ℕ). at_start (bytes_in d x) values) ep
      ∙ sym (ap (λ (b : Bool). cond b values (at_start (bytes_in d n) values)) e))
      (ap length stands ∙ length_front values fill bytes (long-part ∙ sym (length-take-le bytes values (omega (arith, few, in_values)))))
      (made ∙ ap (λ (t : List ℕ). at_start t out) shows)
      (er' ∙ ap length shows)
      (omega (arith, ap length shows, room'))
      (F.remains ∙ ap (left_after d) ep)

-- ---- the closing line
module _ (d : Delivery) (line : List ℕ) where
  pub unclosed : (d.left ≡ 0 → ⊥) → (Put (closing_of d (length line)) 0 line line 0) × Counts 0 line
  unfolding closing_of
  unclosed h =
      let t = ap (λ (b : Bool). b && leb 42 (length line)) (ne_eqb d.left 0 h) in
      (given_no (ends_of d.first d.draws) 0 line t, counts 0 line (omega arith))

  pub closed : {line' : List ℕ} {r : ℕ} → d.left ≡ 0 → Put (given (leb 42 (length line)) (ends_of d.first d.draws)) 0 line line' r
      → Put (closing_of d (length line)) 0 line line' r
  unfolding closing_of
  closed {line'} {r} e P =
      let t = ap (λ (b : Bool). b && leb 42 (length line)) (eq-eqb d.left 0 e) in
      subst (λ (b : Bool). Put (given b (ends_of d.first d.draws)) 0 line line' r) (sym t) P
