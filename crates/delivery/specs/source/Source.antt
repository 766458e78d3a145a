-- Either engine under one type: what a draw hands out, the source after it, where a source starts, and what the result of a fill of bytes
-- says. Engine 1 is xoshiro256++, any other number Philox.
use Rattle.std.specs.Prelude.{ℕ, cond, List, Result, ◌==◌}
use Rattle.base.specs.Engine.{Engine}
use Rattle.base.specs.Refusal.{Answer, answer_of}
use Rattle.base.specs.declared.refusal.Refusal.{Refusal}
use Rattle.philox.specs.x8.Machine.{fresh, words_of as philoxWords, next_of as philoxNext}
use Rattle.xoshiro.specs.x8.Calls.{placed, words_of as xoshiroWords, next_of as xoshiroNext}
use Rattle.delivery.specs.declared.source.Source.{Source}
use Rattle.delivery.specs.declared.source.Source.TheVariants.{Xoshiro, Philox}
use Rattle.delivery.specs.declared.source.SourceFill.{SourceFill}

-- a draw: the engine's own
unfoldable pub words_of : Source → List ℕ
words_of (Xoshiro g) = xoshiroWords g
words_of (Philox g) = philoxWords g

unfoldable pub next_of : Source → Source
next_of (Xoshiro g) = Xoshiro (xoshiroNext g)
next_of (Philox g) = Philox (philoxNext g)

abbrev pub either : Engine Source
either = record { words = words_of; next = next_of }

-- before the first draw: block `block` of a seed; or stream `block` of the key `seed`
unfoldable pub start_of : ℕ → ℕ → ℕ → Source
start_of engine seed block = cond (engine == 1) (Xoshiro (placed seed block).rng) (Philox (fresh seed block))

-- what the result of a fill of bytes from the source s on says: a refused one leaves s and makes no draws
abbrev pub answered : Source → Result SourceFill Refusal → Answer SourceFill
answered s = answer_of (record { draws = 0; source = s })
