-- Four draws of SplitMix64, and the guard: a state of words, not all of them zero. Assumes nothing.
use Rattle.std.proofs.Common.{◌≡◌, ℕ, ◌/◌, ◌^◌, ◌<◌, Bool, true, false, cond, sym, refl, ap, ◌∙◌, mod-lt, arith, lit<, pow_pos}
use lib.Bits.{xor_lt}
use Rattle.words.specs.Words.{xor_shifted}
use Rattle.xoshiro.specs.splitmix64.SplitMix64.{started, drawn, mixed, mix_step}
use Rattle.xoshiro_steps.specs.Xoshiro256pp.{State, all_zero}
use Rattle.xoshiro_steps.specs.Claims.{Words}
use Rattle.xoshiro.specs.scalar.Seeded.{kept, seed_words, seeded}
use Rattle.xoshiro.specs.declared.splitmix64.SplitMix64.{SplitMix64}
use Rattle.xoshiro.specs.declared.splitmix64.Draw.{Draw}

pub drawn-words : {seed : ℕ} {g : SplitMix64} {a b c d : Draw} → g ≡ started seed → a ≡ drawn g → b ≡ drawn a.rng → c ≡ drawn b.rng → d ≡ drawn c.rng
    → ◌≡◌ {A = State} (record { w0 = a.word; w1 = b.word; w2 = c.word; w3 = d.word }) (seed_words seed)
unfolding seed_words drawn
drawn-words eg ea eb ec ed =
    let a = ea ∙ ap drawn eg in
    let b = eb ∙ ap (λ (x : Draw). drawn x.rng) a in
    let c = ec ∙ ap (λ (x : Draw). drawn x.rng) b in
    let d = ed ∙ ap (λ (x : Draw). drawn x.rng) c in
    λ i. record { w0 = (a i).word; w1 = (b i).word; w2 = (c i).word; w3 = (d i).word }

pub kept-zero : (s : State) → all_zero s ≡ true → record { w0 = 1; w1 = s.w1; w2 = s.w2; w3 = s.w3 } ≡ kept s
unfolding kept
kept-zero s e = ap (λ (b : Bool). cond b (record { w0 = 1; w1 = s.w1; w2 = s.w2; w3 = s.w3 }) s) (sym e)

pub kept_other : (s : State) → all_zero s ≡ false → s ≡ kept s
unfolding kept
kept_other s e = ap (λ (b : Bool). cond b (record { w0 = 1; w1 = s.w1; w2 = s.w2; w3 = s.w3 }) s) (sym e)

-- the guard: a seed's state has a nonzero word
pub nonzero_seeded : (seed : ℕ) → all_zero (seeded seed) ≡ false
unfolding seeded kept
nonzero_seeded seed = go (all_zero (seed_words seed)) refl
  where
    go : (b : Bool) → all_zero (seed_words seed) ≡ b → let s = seed_words seed in
        all_zero (cond b (record { w0 = 1; w1 = s.w1; w2 = s.w2; w3 = s.w3 }) s) ≡ false
    go true e = unfold all_zero in refl
    go false e = e

-- ---- words below 2 ^ 64
mixed_lt : (z : ℕ) → mixed z < 2 ^ 64
unfolding mixed mix_step xor_shifted
mixed_lt z =
    let y : ℕ = mix_step 27 0x94D0_49BB_1331_11EB (mix_step 30 0xBF58_476D_1CE4_E5B9 z) in
    let h : y < 2 ^ 64 = mod-lt _ (pow_pos 64) in
    xor_lt 64 y (y / 2 ^ 31) h (omega arith)

pub words-seeded : (seed : ℕ) → Words (seeded seed)
unfolding seeded kept seed_words
words-seeded seed = go (all_zero (seed_words seed))
  where
    go : (b : Bool)
        → Words (cond b (record { w0 = 1; w1 = (seed_words seed).w1; w2 = (seed_words seed).w2; w3 = (seed_words seed).w3 }) (seed_words seed))
    go true = record { w0 = lit< tt; w1 = mixed_lt _; w2 = mixed_lt _; w3 = mixed_lt _ }
    go false = record { w0 = mixed_lt _; w1 = mixed_lt _; w2 = mixed_lt _; w3 = mixed_lt _ }
