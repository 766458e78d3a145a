-- The loop over the rounds, and a block from its halves. Assumes nothing.
use Rattle.std.proofs.Common.{◌≡◌, ℕ, ◌+◌, ◌/◌, ◌%◌, ◌^◌, ◌<◌, ◌≤◌, List, length, sym, refl, ap, ◌∙◌, add-one, arith}
use Rattle.base.specs.Quad.{quad_of, list_of}
use Rattle.base.proofs.Quad.{list_four}
use Rattle.philox.specs.block.Philox.{round, rounds, key_at, bump0, bump1, counter_of, block}

-- after i rounds of the counter c₀ under the key words k₀ and k₁
pub record Rounds (c₀ : List ℕ) (k₀ k₁ : ℕ) (c : List ℕ) (a b i : ℕ) : Type 0 where
  pub upto : i ≤ 10
  pub long : length c ≡ 4
  pub made : quad_of c ≡ rounds i k₀ k₁ (quad_of c₀)
  pub key0 : a ≡ key_at bump0 i k₀
  pub key1 : b ≡ key_at bump1 i k₁

pub rounds-none : {c₀ : List ℕ} {k₀ k₁ : ℕ} → length c₀ ≡ 4 → Rounds c₀ k₀ k₁ c₀ k₀ k₁ 0
unfolding rounds key_at
rounds-none l = record { upto = omega arith; long = l; made = refl; key0 = refl; key1 = refl }

module _ {c₀ : List ℕ} {k₀ k₁ : ℕ} {c : List ℕ} {a b i : ℕ} (w : Rounds c₀ k₀ k₁ c a b i) where
  key_more : (bump k x : ℕ) → x ≡ key_at bump i k → (x + bump) % 2 ^ 32 ≡ key_at bump (i + 1) k
  unfolding key_at
  key_more bump k x e = rw (add-one i) (ap (λ (y : ℕ). (y + bump) % 2 ^ 32) e)

  round_more : round a b (quad_of c) ≡ rounds (i + 1) k₀ k₁ (quad_of c₀)
  unfolding rounds
  round_more = rw (add-one i) (λ j. round (w.key0 j) (w.key1 j) (w.made j))

  pub rounds_more : i < 10 → {c' : List ℕ} {a' b' : ℕ} → c' ≡ list_of (round a b (quad_of c)) → a' ≡ (a + bump0) % 2 ^ 32 → b' ≡ (b + bump1) % 2 ^ 32
      → Rounds c₀ k₀ k₁ c' a' b' (i + 1)
  rounds_more h ec ea eb =
      record {
        upto = omega arith;
        long = ap length ec;
        made = ap quad_of ec ∙ round_more;
        key0 = ea ∙ key_more bump0 k₀ a w.key0;
        key1 = eb ∙ key_more bump1 k₁ b w.key1;
      }

  pub rounds-end : 10 ≤ i → c ≡ list_of (rounds 10 k₀ k₁ (quad_of c₀))
  rounds-end h =
      let u = w.upto in
      let e : i ≡ 10 = omega arith in
      sym (list_four 0 c w.long) ∙ ap list_of (w.made ∙ ap (λ (n : ℕ). rounds n k₀ k₁ (quad_of c₀)) e)

-- a block from the halves of its number and its stream
pub block_by : (k₀ k₁ s m : ℕ) {n a b c d : ℕ} {q : List ℕ} → n ≡ m → a ≡ n % 2 ^ 32 → b ≡ n / 2 ^ 32 → c ≡ s % 2 ^ 32 → d ≡ s / 2 ^ 32
    → q ≡ list_of (rounds 10 k₀ k₁ (record { w0 = a; w1 = b; w2 = c; w3 = d })) → quad_of q ≡ block k₀ k₁ s m
unfolding block counter_of
block_by k₀ k₁ s m en ea eb ec ed eq =
    let a = ea ∙ ap (λ (x : ℕ). x % 2 ^ 32) en in
    let b = eb ∙ ap (λ (x : ℕ). x / 2 ^ 32) en in
    ap quad_of eq ∙ (λ i. rounds 10 k₀ k₁ (record { w0 = a i; w1 = b i; w2 = ec i; w3 = ed i }))
