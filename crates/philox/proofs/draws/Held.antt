-- Words of 32 bits stay so through the rounds, and two of them side by side are a word. Assumes nothing.
use Rattle.std.proofs.Common.{◌≡◌, ℕ, ◌+◌, ◌*◌, ◌/◌, ◌%◌, ◌^◌, ◌<◌, ◌≤◌, List, length, get_or, sym, ap, ◌∙◌, subst, mod-lt, arith, pow_pos, shl_exact, shr_lt}
use lib.Bits.{bit_and, bit_or, bit_xor, and_mask, xor_lt, or_shifted_r}
use Rattle.base.specs.Quad.{Quad, quad_of, list_of}
use Rattle.words.proofs.Words.{half_product}
use Rattle.philox.specs.block.Philox.{m0, m1, bump0, bump1, round, rounds, block, counter_of}
use Rattle.philox.proofs.block.Rounds.{Rounds, rounds-none, rounds_more, rounds-end}
use Rattle.philox.specs.draws.Draws.{Small, lower_of, upper_of}

high_small : (m x : ℕ) → m < 2 ^ 32 → x < 2 ^ 32 → m * x / 2 ^ 32 < 2 ^ 32
high_small m x hm hx = shr_lt 32 32 (half_product hm hx)

round_small : (k0 k1 : ℕ) (q : Quad) → k0 < 2 ^ 32 → k1 < 2 ^ 32 → Small q → Small (round k0 k1 q)
unfolding round
round_small k0 k1 q a b h =
    record {
      s0 = xor_lt 32 _ k0 (xor_lt 32 _ q.w1 (high_small m1 q.w2 (omega arith) h.s2) h.s1) a;
      s1 = mod-lt (m1 * q.w2) (pow_pos 32);
      s2 = xor_lt 32 _ k1 (xor_lt 32 _ q.w3 (high_small m0 q.w0 (omega arith) h.s0) h.s3) b;
      s3 = mod-lt (m0 * q.w0) (pow_pos 32);
    }

pub counter_small : (s n : ℕ) → s < 2 ^ 64 → n < 2 ^ 64 → Small (counter_of s n)
unfolding counter_of
counter_small s n a b = record { s0 = omega arith; s1 = omega arith; s2 = omega arith; s3 = omega arith }

-- a round and a counter whose low halves are made by masks, as the code makes them
abbrev round_masked : ℕ → ℕ → Quad → Quad
round_masked k0 k1 c =
    record {
      w0 = bit_xor (bit_xor (m1 * c.w2 / 2 ^ 32) c.w1) k0;
      w1 = bit_and (m1 * c.w2) 0xffff_ffff;
      w2 = bit_xor (bit_xor (m0 * c.w0 / 2 ^ 32) c.w3) k1;
      w3 = bit_and (m0 * c.w0) 0xffff_ffff;
    }

pub round_masked_lem : (k0 k1 : ℕ) (c : Quad) → list_of (round_masked k0 k1 c) ≡ list_of (round k0 k1 c)
unfolding round
round_masked_lem k0 k1 c =
    λ i. list_of
    (record { w0 = (round k0 k1 c).w0; w1 = and_mask (m1 * c.w2) 32 i; w2 = (round k0 k1 c).w2; w3 = and_mask (m0 * c.w0) 32 i })

abbrev counter_masked : ℕ → ℕ → Quad
counter_masked s n = record { w0 = bit_and n 0xffff_ffff; w1 = n / 2 ^ 32; w2 = bit_and s 0xffff_ffff; w3 = s / 2 ^ 32 }

pub counter_masked_lem : (s n : ℕ) → counter_masked s n ≡ counter_of s n
unfolding counter_of
counter_masked_lem s n = λ i. record { w0 = and_mask n 32 i; w1 = n / 2 ^ 32; w2 = and_mask s 32 i; w3 = s / 2 ^ 32 }

-- two halves side by side
joined : (lo hi : ℕ) → lo < 2 ^ 32 → hi < 2 ^ 32 → bit_or lo (hi * 2 ^ 32 % 2 ^ 64) ≡ lo + 2 ^ 32 * hi
joined lo hi a b = ap (bit_or lo) (shl_exact 32 32 64 b (omega arith)) ∙ or_shifted_r hi 32 lo a ∙ omega arith

-- the loop over the rounds (`Rounds` of philox), of small words
pub record Turning (from : List ℕ) (k0 k1 : ℕ) (c : List ℕ) (a b i : ℕ) : Type 0 where
  pub rounds : Rounds from k0 k1 c a b i
  pub small : Small (quad_of c)
  pub small0 : a < 2 ^ 32
  pub small1 : b < 2 ^ 32

pub turning_none : {c : List ℕ} {k0 k1 : ℕ} → length c ≡ 4 → Small (quad_of c) → k0 < 2 ^ 32 → k1 < 2 ^ 32 → Turning c k0 k1 c k0 k1 0
turning_none e h p q = record { rounds = rounds-none e; small = h; small0 = p; small1 = q }

pub turning_more : {from c c' : List ℕ} {k0 k1 a b a' b' i : ℕ} → Turning from k0 k1 c a b i → i < 10
    → c' ≡ list_of (round a b (quad_of c)) → a' ≡ (a + bump0) % 2 ^ 32 → b' ≡ (b + bump1) % 2 ^ 32 → Turning from k0 k1 c' a' b' (i + 1)
turning_more {c = c} {a = a} {b = b} T h ec ea eb =
    record {
      rounds = rounds_more T.rounds h ec ea eb;
      small = subst Small (sym (ap quad_of ec)) (round_small a b (quad_of c) T.small0 T.small1 T.small);
      small0 = rw ea (mod-lt (a + bump0) (pow_pos 32));
      small1 = rw eb (mod-lt (b + bump1) (pow_pos 32));
    }

pub turning_end : {from c : List ℕ} {k0 k1 a b i : ℕ} (s n : ℕ) → quad_of from ≡ counter_of s n → Turning from k0 k1 c a b i → 10 ≤ i
    → (bit_or (get_or c 0 0) (get_or c 1 0 * 2 ^ 32 % 2 ^ 64) ≡ lower_of (block k0 k1 s n)) × (bit_or (get_or c 2 0) (get_or c 3 0 * 2 ^ 32 % 2 ^ 64) ≡ upper_of (block k0 k1 s n))
unfolding block
turning_end {c = c} {k0 = k0} {k1 = k1} s n e T h =
    let is : quad_of c ≡ block k0 k1 s n = ap quad_of (rounds-end T.rounds h) ∙ ap (rounds 10 k0 k1) e in
    let S = T.small in
    (joined (get_or c 0 0) (get_or c 1 0) S.s0 S.s1 ∙ ap lower_of is, joined (get_or c 2 0) (get_or c 3 0) S.s2 S.s3 ∙ ap upper_of is)
