-- What the result of a byte fill of an eight-lane generator says: a refused one leaves the generator and makes no draws.
use Rattle.std.specs.Prelude.{Result}
use Rattle.base.specs.Refusal.{Answer, answer_of}
use Rattle.base.specs.declared.refusal.Refusal.{Refusal}
use Rattle.xoshiro.specs.declared.x8.Xoshiro256ppX8.{Xoshiro256ppX8}
use Rattle.xoshiro_fills.specs.declared.fill_words.Fill.{Fill}

-- by the fill of the generator g
abbrev pub answered : Xoshiro256ppX8 → Result Fill Refusal → Answer Fill
answered g = answer_of (record { rng = g; draws = 0 })
