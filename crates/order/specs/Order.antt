-- An order, ENGINE SEED BLOCK FIRST KIND COUNT [raw]: what each argument may be, and the number of what is wrong.
use Rattle.std.specs.Prelude.{Bool, true, false, cond, not, List, ℕ, ◌+◌, ◌-◌, ◌^◌, eqb, leb, ltb, length, Option, Some, None}
use Rattle.fills.specs.Fill.{draws_for}
use Rattle.fills.specs.Kinds.{kinds, kind_at}
use Rattle.order.specs.Words as words
use Rattle.order.specs.Words.{starts_with, number}
use Rattle.base.specs.Refusal.{Answer}
use Rattle.order.specs.Faults.{blank}
use Rattle.order.specs.declared.Order.{Order}

-- the engine that a text names: 1 xoshiro, 2 Philox, 0 none
unfoldable pub engine_of : List ℕ → ℕ
engine_of s = cond (starts_with words.xoshiro s) 1 (cond (starts_with words.philox s) 2 0)

-- the kind of a text, by its name or by its number, 0 for none
unfoldable pub numbered : List ℕ → ℕ
numbered s = number (length kinds) s 0 (λ k. k)

unfoldable pub kind_of : List ℕ → ℕ
kind_of s =
    cond (starts_with words.u64 s) 1
    (cond (starts_with words.u32 s) 2
    (cond (starts_with words.f32 s) 3
    (cond (starts_with words.f64 s) 4
    (cond (starts_with words.normal_f32 s) 5
    (cond (starts_with words.normal_f64 s) 6
    (cond (starts_with words.open01_f32 s) 7
    (cond (starts_with words.open01_f64 s) 8 (numbered s))))))))

-- a number that is not 0
abbrev pub nonzero : ℕ → Option ℕ
nonzero n = cond (eqb n 0) None (Some n)

-- the last block of an engine. A block of xoshiro is 8 jumps, counted modulo 2^64, so block 2^61 would be block 0 again; Philox has 2^64 streams
unfoldable pub last_block : ℕ → ℕ
last_block e = cond (eqb e 1) (2 ^ 61 - 1) (2 ^ 64 - 1)

-- the last draw of an engine. A stream of Philox has 2^62 draws (`draws_left` of a fresh generator), and then its blocks come again; for
-- xoshiro it is the last number of 64 bits
unfoldable pub last_draw : ℕ → ℕ
last_draw e = cond (eqb e 1) (2 ^ 64 - 1) (2 ^ 62 - 1)

-- no order: 1 to 7 name the argument, 8 says that the order goes past the last draw, 9 that there are not 6 or 7 arguments
unfoldable pub refused : ℕ → Answer Order
refused n = record { refusal = n; value = blank }

-- an order that nothing is wrong with so far
abbrev pub fine : Order → Answer Order
fine o = record { refusal = 0; value = o }

-- where an order starts: its engine, seed, block and first draw
unfoldable pub origin_of : (engine seed block first : List ℕ) → Answer Order
origin_of engine seed block first =
    let e = engine_of engine in
    cond (eqb e 0) (refused 1)
    (number (2 ^ 64 - 1) seed (refused 2) (λ s.
    number (last_block e) block (refused 3) (λ b.
    number (last_draw e) first (refused 4) (λ f.
    fine (record { engine = e; seed = s; block = b; first = f; kind = 0; count = 0; draws = 0; raw = false })))))

-- an order that starts there, of `count` values of kind k; its draws are those of the table
unfoldable pub with_draws : Order → (k count : ℕ) → Bool → Answer Order
with_draws o k count raw =
    let d = draws_for (kind_at k).kind count in
    cond (leb (o.first + d) (last_draw o.engine + 1))
    (fine (record { engine = o.engine; seed = o.seed; block = o.block; first = o.first; kind = k; count = count; draws = d; raw = raw }))
    (refused 8)

-- the same, by the texts of its kind and its count
unfoldable pub with_values : Order → (kind count : List ℕ) → Bool → Answer Order
with_values o kind count raw =
    cond (eqb (kind_of kind) 0) (refused 5) (number (2 ^ 64 - 1) count (refused 6) (λ c. with_draws o (kind_of kind) c raw))

-- the order of `given` arguments; the seventh, where there is one, is `raw`. Where several things are wrong: 9, then 1 to 4, then 7, then 5, 6 and 8
unfoldable pub order_of : (given : ℕ) (engine seed block first kind count last : List ℕ) → Answer Order
order_of given engine seed block first kind count last =
    let o = origin_of engine seed block first in
    cond (ltb given 6) (refused 9)
    (cond (ltb 7 given) (refused 9)
    (cond (not (eqb o.refusal 0)) o
    (cond (eqb given 6) (with_values o.value kind count false) (cond (starts_with words.raw last) (with_values o.value kind count true) (refused 7)))))
