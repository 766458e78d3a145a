-- What is claimed of a source: its draws hand out its engine's words, each from a place of its own. Each claim is proved in
-- proofs/source/Theorems.antt.
use Rattle.std.specs.Prelude.{◌≡◌, ℕ, ◌<◌, ◌≤◌, ◌≢◌, slice_index}
use Rattle.base.specs.Iterate.{iterate}
use Rattle.philox.specs.x8.Machine.{fresh, words_of as philoxWords, next_of as philoxNext}
use Rattle.xoshiro.specs.x8.Calls.{placed, words_of as xoshiroWords, next_of as xoshiroNext}
use Rattle.order.specs.Order.{last_block, last_draw}
use Rattle.delivery.specs.source.Source.{words_of, next_of, start_of}
use Rattle.delivery.specs.source.Places.{word_at, place_of}

-- draw m of engine 1 is draw m of xoshiro256++
abbrev pub XoshiroDraws : Type 0
XoshiroDraws = (seed block m : ℕ) → words_of (iterate next_of m (start_of 1 seed block)) ≡ xoshiroWords (iterate xoshiroNext m (placed seed block).rng)

-- draw m of any other engine is draw m of Philox
abbrev pub PhiloxDraws : Type 0
PhiloxDraws = (engine seed block m : ℕ) → (engine ≢ 1) → words_of (iterate next_of m (start_of engine seed block)) ≡ philoxWords (iterate philoxNext m (fresh seed block))

-- word j of draw i is the word at its place
abbrev pub AtItsPlace : Type 0
AtItsPlace = (engine seed block i j : ℕ) → j < 8
    → slice_index (words_of (iterate next_of i (start_of engine seed block))) j ≡ word_at seed (place_of engine block i j)

-- no place has two words, of the blocks and draws that an order may name
abbrev pub OneWordEach : Type 0
OneWordEach = (engine b c i k j l : ℕ) → b ≤ last_block engine → c ≤ last_block engine → i ≤ last_draw engine → k ≤ last_draw engine
    → j < 8 → l < 8 → place_of engine b i j ≡ place_of engine c k l → (b ≡ c) × (i ≡ k) × (j ≡ l)
