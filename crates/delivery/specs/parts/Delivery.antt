-- One order delivered part by part: where it begins, what the next part holds and how it is written, what is left after it, and the
-- closing line.
use Rattle.std.specs.Prelude.{◌≡◌, ℕ, ◌+◌, ◌-◌, ◌*◌, ◌/◌, ◌%◌, ◌^◌, ◌<◌, ◌≤◌, min, Bool, cond, ◌&&◌, List, ◌++◌, length, take, drop, ◌==◌, nat_le}
use Rattle.base.specs.Engine.{words_from}
use Rattle.base.specs.Iterate.{iterate}
use Rattle.base.specs.Put.{given}
use Rattle.fills.specs.FillBytes.{bytes_written, bytes_draws}
use Rattle.fills.specs.Kinds.{kinds, kind_at, is_kind}
use Rattle.text.specs.lines.Lines.{lines_of, ends_of}
use Rattle.order.specs.declared.Order.{Order}
use Rattle.delivery.specs.source.Source.{next_of, start_of, either}
use Rattle.delivery.specs.declared.parts.Delivery.{Delivery}

-- the bytes of an element of kind k
abbrev pub width_of : ℕ → ℕ
width_of k = (kind_at k).kind.width

-- the places of a group
abbrev pub group_of : ℕ → ℕ
group_of k = (kind_at k).kind.places

-- ---- where a delivery begins: at draw FIRST of the order's generator, with all COUNT places left and no draw made
abbrev pub begun : Order → Delivery
begun o =
    record {
      source = iterate next_of o.first (start_of o.engine o.seed o.block);
      kind = o.kind;
      left = o.count;
      raw = o.raw;
      first = o.first;
      draws = 0;
    }

-- ---- n places of a delivery
-- their bytes, and their draws
abbrev pub bytes_in : Delivery → ℕ → List ℕ
bytes_in d n = bytes_written d.kind (words_from either d.source) (n * width_of d.kind)

abbrev pub draws_in : Delivery → ℕ → ℕ
draws_in d n = bytes_draws d.kind (n * width_of d.kind)

-- bytes of kind k as they are written: with `raw` as they are, else as lines
abbrev pub shown : Bool → ℕ → List ℕ → List ℕ
shown raw k l = cond raw l (lines_of k l)

-- what is left after them: it begins where their draws end. The draws are counted modulo 2^64
abbrev pub left_after : Delivery → ℕ → Delivery
left_after d n =
    record {
      source = iterate next_of (draws_in d n) d.source;
      kind = d.kind;
      left = d.left - n;
      raw = d.raw;
      first = d.first;
      draws = (d.draws + draws_in d n) % 2 ^ 64;
    }

-- ---- the next part
-- the places of a part in a buffer of n bytes, where `left` are left: all of them, or as many times 16 as there is room for, so that the
-- part ends where a group ends, whatever the kind. None where no row of the table is k.
unfoldable pub places_of : ℕ → ℕ → ℕ → ℕ
places_of k left n = cond (is_kind k) (min left (16 * (n / (16 * width_of k)))) 0

-- the values of a part stand in a buffer that was `before` and is `after`, from its start on; the bytes behind them are as they were
pub record FilledPart (d : Delivery) (before after : List ℕ) (bytes : ℕ) (rest : Delivery) : Type 0 where
  pub count : bytes ≡ places_of d.kind d.left (length before) * width_of d.kind
  pub writes : after ≡ bytes_in d (places_of d.kind d.left (length before)) ++ drop bytes before
  pub remains : rest ≡ left_after d (places_of d.kind d.left (length before))
  -- what follows from these, for a caller: the part lies in the buffer
  pub inside : bytes ≤ length after
  pub long : bytes ≡ length (take bytes after)

-- the bytes of values of kind k that a part in text may have, of `values` bytes of room, and `out` bytes for lines of at most 25
abbrev pub text_room : (k values out : ℕ) → ℕ
text_room k values out = min values (out / 25 * width_of k)

-- the places of the next part, by the lengths of the buffers: with `raw` its values are made in `out`, else in `values`
unfoldable pub next_places : Delivery → (values out : ℕ) → ℕ
next_places d values out = places_of d.kind d.left (cond d.raw out (text_room d.kind values out))

-- a text at the start of a buffer, and behind it what stood there
abbrev pub at_start : List ℕ → List ℕ → List ℕ
at_start t l = t ++ drop (length t) l

-- The next part of the delivery d: the buffers were `values` and `out` and are `values'` and `out'`, and `bytes` and `rest` were handed
-- back.
pub record NextPart (d : Delivery) (values values' out out' : List ℕ) (bytes : ℕ) (rest : Delivery) : Type 0 where
  pub makes : values' ≡ cond d.raw values (at_start (bytes_in d (next_places d (length values) (length out))) values)
  pub writes : out' ≡ at_start (shown d.raw d.kind (bytes_in d (next_places d (length values) (length out)))) out
  pub count : bytes ≡ length (shown d.raw d.kind (bytes_in d (next_places d (length values) (length out))))
  pub remains : rest ≡ left_after d (next_places d (length values) (length out))
  -- what follows from these, for a caller: the buffers keep their lengths, the part lies in `out`, less is left unless it is empty, and
  -- it is empty only where nothing is left, the kind is outside the table, or a buffer is too small
  pub same : (length values' ≡ length values) × (length out' ≡ length out)
  pub inside : bytes ≤ length out'
  pub long : bytes ≡ length (take bytes out')
  pub lessens : 0 < bytes → rest.left < d.left
  pub some : 1 ≤ d.kind → d.kind ≤ length kinds → 128 ≤ length values → 400 ≤ length out → 0 < d.left → 0 < bytes

-- ---- the closing line, in a buffer of `room` bytes: where nothing is left, the first draw of the delivery and the first after those it
-- made. It has 42 bytes at most
unfoldable pub closing_of : Delivery → (room : ℕ) → List ℕ
closing_of d room = given (d.left == 0 && nat_le 42 room) (ends_of d.first d.draws)
