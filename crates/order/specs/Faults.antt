-- What is wrong with an order's arguments, by number: 1 to 7 name the argument, 8 says that the order goes past the last draw, 9 that there are
-- not 6 or 7 arguments. And what the functions answer, as such a number, 0 where nothing is wrong, and an order.
use Rattle.std.specs.Prelude.{ℕ, List, codes, Option, Some, None, Ok, Err, Result, false}
use Rattle.base.specs.Refusal.{Answer}
use Rattle.order.specs.declared.Order.{Order}
use Rattle.order.specs.declared.Start.{Start}
use Rattle.order.specs.declared.Fault as fault
use Rattle.order.specs.declared.Fault.TheVariants.{Engine, Seed, Block, First, Kind, Count, Last, Draws, Arguments}
use Rattle.order.specs.declared.Engine as engine
use Rattle.order.specs.declared.Engine.TheVariants.{Xoshiro, Philox}

abbrev pub number_of : fault.Fault → ℕ
number_of Engine = 1
number_of Seed = 2
number_of Block = 3
number_of First = 4
number_of Kind = 5
number_of Count = 6
number_of Last = 7
number_of Draws = 8
number_of Arguments = 9

-- what is written of a fault: the argument that is wrong and what it takes, or why the order as a whole is refused
abbrev pub message_of : fault.Fault → List ℕ
message_of Engine = codes "ENGINE: xoshiro or philox"
message_of Seed = codes "SEED: a whole number in decimal digits, with no zero in front, from 0 to 18446744073709551615"
message_of Block = codes "BLOCK: a whole number in decimal digits, with no zero in front, from 0 to 2305843009213693951 for xoshiro, to 18446744073709551615 for philox"
message_of First = codes "FIRST: a whole number in decimal digits, with no zero in front, from 0 to 18446744073709551615 for xoshiro, to 4611686018427387903 for philox"
message_of Kind = codes "KIND: 1 to 8, or u64, u32, f32, f64, normal_f32, normal_f64, open01_f32, open01_f64"
message_of Count = codes "COUNT: a whole number in decimal digits, with no zero in front, from 0 to 18446744073709551615"
message_of Last = codes "the last argument: raw, or nothing"
message_of Draws = codes "COUNT: FIRST and the draws of COUNT values come to more than 18446744073709551616 for xoshiro, 4611686018427387904 for philox"
message_of Arguments = codes "usage: deliver ENGINE SEED BLOCK FIRST KIND COUNT [raw]"

-- the order of zeros
abbrev pub blank : Order
blank = record { engine = 0; seed = 0; block = 0; first = 0; kind = 0; count = 0; draws = 0; raw = false }

-- what a result answers
abbrev pub answer_of : Result Order fault.Fault → Answer Order
answer_of (Ok o) = record { refusal = 0; value = o }
answer_of (Err e) = record { refusal = number_of e; value = blank }

-- the number of an engine, 0 of none
abbrev pub number_of_engine : engine.Engine → ℕ
number_of_engine Xoshiro = 1
number_of_engine Philox = 2

abbrev pub engine_in : Option engine.Engine → ℕ
engine_in None = 0
engine_in (Some e) = number_of_engine e

-- an order of which only the start is known, the rest zeros
abbrev pub started : Start → Order
started o = record { engine = number_of_engine o.engine; seed = o.seed; block = o.block; first = o.first; kind = 0; count = 0; draws = 0; raw = false }

abbrev pub origin_in : Result Start fault.Fault → Answer Order
origin_in (Ok o) = record { refusal = 0; value = started o }
origin_in (Err e) = record { refusal = number_of e; value = blank }
