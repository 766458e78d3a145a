-- What is claimed of the work of the program deliver: it reads an order (`order::read`), begins its delivery, calls `next_part` of
-- `parts` until nothing is left, and writes what each call hands out, and then the closing line. Each claim is proved in
-- proofs/claims/Theorems.antt.
use Rattle.std.specs.Prelude.{◌≡◌, ℕ, ◌+◌, ◌*◌, ◌%◌, ◌<◌, ◌≤◌, true, false, List, ◌++◌, length, ◌≢◌}
use Rattle.base.specs.Iterate.{iterate}
use Rattle.base.specs.Lists as lists
use Rattle.delivery.specs.source.Places.{place_of}
use Rattle.delivery.specs.source.Source.{words_of, next_of, start_of}
use Rattle.delivery.specs.parts.Delivery.{width_of, group_of, begun, shown, closing_of}
use Rattle.delivery.specs.parts.Claims.{Call, Run, rest_of, joined_in, ordered, Useful}
use Rattle.fills.specs.FillBytes.{bytes_written}
use Rattle.text.specs.lines.Lines.{lines_of, ends_of}
use Rattle.order.specs.Claims.{Accepted}
use Rattle.order.specs.declared.Order.{Order}

-- the bytes of the one fill of COUNT places that an order asks for
abbrev pub bytes_of : Order → List ℕ
bytes_of o = ordered o.engine o.seed o.block o.first o.kind o.count

-- calls of next_part that deliver all of an order
pub record Whole (o : Order) (calls : List Call) : Type 0 where
  pub run : Run (begun o) calls
  pub end : (rest_of (begun o) calls).left ≡ 0

-- with `raw`: what they hand out, joined, is the bytes of the one fill
abbrev pub Raw : Type 0
Raw = (o : Order) (calls : List Call) → o.raw ≡ true → Whole o calls → joined_in calls ≡ bytes_of o

-- without: the lines of the one fill
abbrev pub Text : Type 0
Text = (o : Order) (calls : List Call) → o.raw ≡ false → Whole o calls → joined_in calls ≡ lines_of o.kind (bytes_of o)

-- the draws that were made are those from FIRST up to END: after the last part the generator has made END draws since its start
abbrev pub Ends : Type 0
Ends = (o : Order) (calls : List Call) → Accepted o → Whole o calls
    → (rest_of (begun o) calls).source ≡ iterate next_of (o.first + o.draws) (start_of o.engine o.seed o.block)

-- and the closing line, of the draws that the parts counted, is FIRST and FIRST + the table's draws for COUNT places
abbrev pub Closes : Type 0
Closes = (o : Order) (calls : List Call) (room : ℕ) → Accepted o → Whole o calls → 42 ≤ room
    → closing_of (rest_of (begun o) calls) room ≡ ends_of o.first o.draws

-- an order is delivered by COUNT calls at most, each with buffers that are large enough
abbrev pub Finishes : Type 0
Finishes = (o : Order) (calls : List Call) → Accepted o → Run (begun o) calls
    → lists.Each (λ earlier s. Useful (rest_of (begun o) earlier) s) calls → length calls ≤ o.count

-- an order of n more values is the order, where COUNT is a number of whole groups, and an order of n values with END as its FIRST
abbrev pub Resumes : Type 0
Resumes = (o : Order) (n : ℕ) → Accepted o → o.count % group_of o.kind ≡ 0
    → shown o.raw o.kind (ordered o.engine o.seed o.block o.first o.kind (o.count + n))
    ≡ shown o.raw o.kind (bytes_of o)
    ++ shown o.raw o.kind (ordered o.engine o.seed o.block (o.first + o.draws) o.kind n)

-- ---- which draws an order reads
-- draw i is one of those from FIRST up to END
pub record Reads (o : Order) (i : ℕ) : Type 0 where
  pub from : o.first ≤ i
  pub until : i < o.first + o.draws

-- the words of draw i of an order's engine, seed and block
abbrev pub draw_of : Order → ℕ → List ℕ
draw_of o i = words_of (iterate next_of i (start_of o.engine o.seed o.block))

-- the bytes that an order would have if draw i handed out W i
abbrev pub bytes_from : (ℕ → List ℕ) → Order → List ℕ
bytes_from W o = bytes_written o.kind (λ m. W (o.first + m)) (o.count * width_of o.kind)

-- an order's bytes are made of its own draws from FIRST up to END, and of no other: where two streams agree on these, the bytes are the
-- same
pub record MadeOf (o : Order) : Type 0 where
  pub own : bytes_of o ≡ bytes_from (draw_of o) o
  pub only : (U W : ℕ → List ℕ) → ((i : ℕ) → Reads o i → U i ≡ W i) → bytes_from U o ≡ bytes_from W o

abbrev pub ReadsOnlyItsDraws : Type 0
ReadsOnlyItsDraws = (o : Order) → Accepted o → MadeOf o

-- orders of one engine and one seed lie apart: their blocks differ, or their ranges FIRST to END don't meet
pub data Apart (o p : Order) : Type 0 where
  blocks : (o.block ≢ p.block) → Apart o p
  before : o.first + o.draws ≤ p.first → Apart o p
  behind : p.first + p.draws ≤ o.first → Apart o p

-- then they read different draws: no word of a draw that one reads stands at the place of a word that the other reads
abbrev pub NoDrawTwice : Type 0
NoDrawTwice =
    (o p : Order) → Accepted o → Accepted p → o.engine ≡ p.engine → Apart o p → (i k j l : ℕ) → Reads o i → Reads p k → j < 8 → l < 8
    → place_of o.engine o.block i j ≢ place_of p.engine p.block k l
