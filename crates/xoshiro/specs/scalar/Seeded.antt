-- The state of a seed: words of SplitMix64, as Blackman and Vigna's reference code xoshiro256plusplus.c suggests.
use Rattle.std.specs.Prelude.{ℕ, cond}
use Rattle.xoshiro_steps.specs.Xoshiro256pp.{State, all_zero}
use Rattle.xoshiro.specs.splitmix64.SplitMix64.{advanced, mixed}

-- the guard: a state that is all zero has 1 as its first word instead
unfoldable pub kept : State → State
kept s = cond (all_zero s) (record { w0 = 1; w1 = s.w1; w2 = s.w2; w3 = s.w3 }) s

-- four words of SplitMix64
unfoldable pub seed_words : ℕ → State
seed_words seed =
    let a = advanced seed in
    let b = advanced a in
    let c = advanced b in
    record { w0 = mixed a; w1 = mixed b; w2 = mixed c; w3 = mixed (advanced c) }

unfoldable pub seeded : ℕ → State
seeded seed = kept (seed_words seed)
