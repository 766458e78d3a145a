-- What is claimed of fills in parts. Each claim is proved in proofs/parts/Theorems.antt.
use Rattle.std.specs.Prelude.{◌≡◌, ℕ, ◌+◌, ◌*◌, ◌%◌, ◌^◌, ◌<◌, ◌≤◌, Bool, List, [], ◌∷◌, ◌++◌, length, take}
use Rattle.base.specs.Engine.{Engine, words_from}
use Rattle.base.specs.Iterate.{iterate}
use Rattle.base.specs.Lists as lists
use Rattle.fills.specs.FillBytes.{bytes_written, bytes_draws}
use Rattle.fills.specs.Kinds.{kinds}
use Rattle.delivery.specs.source.Source.{next_of, start_of, either}
use Rattle.delivery.specs.parts.Delivery.{width_of, group_of, bytes_in, draws_in, shown, NextPart}
use Rattle.delivery.specs.declared.parts.Delivery.{Delivery}
use Rattle.delivery.specs.declared.parts.Part.{Part}

-- ---- two fills, the second from the generator after the first, are one: their bytes joined, and their draws added up
pub record OneFill {G : Type 0} (E : Engine G) (g : G) (k n m : ℕ) : Type 0 where
  pub bytes : bytes_written k (words_from E g) ((n + m) * width_of k)
      ≡ bytes_written k (words_from E g) (n * width_of k) ++ bytes_written k (words_from E (iterate E.next (bytes_draws k (n * width_of k)) g)) (m * width_of k)
  pub draws : bytes_draws k ((n + m) * width_of k) ≡ bytes_draws k (n * width_of k) + bytes_draws k (m * width_of k)

-- on any engine, where the first ends with a whole group
abbrev pub TwoFills : Type 1
TwoFills = (G : Type 0) (E : Engine G) (g : G) (k n m : ℕ) → n % group_of k ≡ 0 → OneFill E g k n m

-- ---- the bytes of an order: n places of kind k from draw `first` on of an engine's seed and block
abbrev pub ordered : ℕ → ℕ → ℕ → ℕ → ℕ → ℕ → List ℕ
ordered engine seed block first k n = bytes_written k (words_from either (iterate next_of first (start_of engine seed block))) (n * width_of k)

-- an order of n places, whole groups of them, and one of m places that begins where its draws end, written one after the other, are what
-- an order of n + m places writes, as bytes and as lines
abbrev pub TwoOrders : Type 0
TwoOrders = (raw : Bool) (engine seed block first k n m : ℕ) → n % group_of k ≡ 0
    → shown raw k (ordered engine seed block first k (n + m))
    ≡ shown raw k (ordered engine seed block first k n)
    ++ shown raw k (ordered engine seed block (first + bytes_draws k (n * width_of k)) k m)

-- ---- a delivery in parts
-- a call of next_part: its two buffers at the call and at the return, and what was handed back
pub record Call : Type 0 where
  pub values : List ℕ
  pub values' : List ℕ
  pub out : List ℕ
  pub out' : List ℕ
  pub part : Part

-- what next_part promises of the call s on the delivery d: its `ensures`, by which the program's loop shows `Reached`, below
abbrev pub Step : Delivery → Call → Type 0
Step d s = NextPart d s.values s.values' s.out s.out' s.part.bytes s.part.rest

-- what the call left, and what it handed out to be written
abbrev pub rest_in : Call → Delivery
rest_in s = s.part.rest

abbrev pub handed_by : Call → List ℕ
handed_by s = take s.part.bytes s.out'

-- the calls were made one after another, each on what the one before it left; the buffers may differ. A list has its latest call first
abbrev pub Run : Delivery → List Call → Type 0
Run = lists.Run Step rest_in

-- what is left after them
abbrev pub rest_of : Delivery → List Call → Delivery
rest_of = lists.end_of rest_in

-- what they handed out joined, the latest call's last
abbrev pub joined_in : List Call → List ℕ
joined_in [] = []
joined_in (s ∷ calls) = joined_in calls ++ handed_by s

-- some calls one after another lead from d to r: what a program promises that calls next_part in a loop
pub record Reached (d r : Delivery) : Type 0 where
  pub calls : List Call
  pub run : Run d calls
  pub end : r ≡ rest_of d calls

-- ---- where nothing is left, what was handed out joined is the one fill of all places of the delivery, the source stands where its draws
-- end, and they are counted, if there are less than 2^64
pub record WholeFill (d : Delivery) (text : List ℕ) (rest : Delivery) : Type 0 where
  pub handed : text ≡ shown d.raw d.kind (bytes_in d d.left)
  pub source : rest.source ≡ iterate next_of (draws_in d d.left) d.source
  pub draws : d.draws + draws_in d d.left < 2 ^ 64 → rest.draws ≡ d.draws + draws_in d d.left
  pub first : rest.first ≡ d.first

abbrev pub Joined : Type 0
Joined = (d : Delivery) (calls : List Call) → Run d calls → (rest_of d calls).left ≡ 0 → WholeFill d (joined_in calls) (rest_of d calls)

-- ---- and it comes to that: a call that found something left, and buffers that are large enough, leaves less. So there are no more such
-- calls, one after another, than places
pub record Useful (d : Delivery) (s : Call) : Type 0 where
  pub left : 0 < d.left
  pub values : 128 ≤ length s.values
  pub out : 400 ≤ length s.out

abbrev pub Stops : Type 0
Stops = (d : Delivery) (calls : List Call) → 1 ≤ d.kind → d.kind ≤ length kinds → Run d calls
    → lists.Each (λ earlier s. Useful (rest_of d earlier) s) calls → length calls + (rest_of d calls).left ≤ d.left
