-- Every generator that a call makes has a key of two words below 2 ^ 32 and words below 2 ^ 64. Assumes nothing.
use Rattle.std.proofs.Common.{◌≡◌, ℕ, zero, suc, ◌+◌, ◌*◌, ◌/◌, ◌%◌, ◌^◌, ◌<◌, Bool, true, false, cond, List, [], ◌∷◌, get_or, replicate, refl, ◌∙◌, mod-lt, arith, lit<, get_or-append-add, pow_pos}
use lib.Bits.{xor_lt}
use lib.ListN.{get_or-replicate}
use Rattle.base.specs.Quad.{Quad}
use Rattle.base.proofs.Table.{length-table}
use Rattle.saved.specs.fields.Fields.{fields}
use Rattle.saved.proofs.fields.Bounds.{Small, table_below, field_below}
use Rattle.saved.proofs.fields.Fields.{Bytes}
use Rattle.philox.specs.block.Philox.{m0, m1, bump0, bump1, round, key_at, rounds, counter_of, block}
use Rattle.philox.specs.x8.Machine.{block_at, upper_at, fresh, sought, holding, past, next_of}
use Rattle.philox.specs.declared.x8.Philox4x32X8.{Philox4x32X8}
use Rattle.saved.specs.philox4x32.Claims.{Words}
use Rattle.saved.specs.philox4x32.Form.{layout, of_fields, loaded}
use Rattle.saved.proofs.philox4x32.Form.{zeros-below, load-accepted}

-- ---- the words of a block
abbrev Word32s : Quad → Type 0
Word32s q = Small (2 ^ 32) q

upper_half : (x : ℕ) → x < 2 ^ 32 → (m0 * x / 2 ^ 32 < 2 ^ 32) × (m1 * x / 2 ^ 32 < 2 ^ 32)
upper_half x h = (omega arith, omega arith)

small_round : {k0 k1 : ℕ} → k0 < 2 ^ 32 → k1 < 2 ^ 32 → (c : Quad) → Word32s c → Word32s (round k0 k1 c)
unfolding round
small_round {k0} {k1} h0 h1 c h =
    record {
      w0 = xor_lt 32 _ k0 (xor_lt 32 _ c.w1 (upper_half c.w2 h.w2).1 h.w1) h0;
      w1 = mod-lt _ (pow_pos 32);
      w2 = xor_lt 32 _ k1 (xor_lt 32 _ c.w3 (upper_half c.w0 h.w0).0 h.w3) h1;
      w3 = mod-lt _ (pow_pos 32);
    }

key_lt : (w i k : ℕ) → k < 2 ^ 32 → key_at w i k < 2 ^ 32
unfolding key_at
key_lt w zero k h = h
key_lt w (suc i) k h = mod-lt _ (pow_pos 32)

small_rounds : (i : ℕ) {k0 k1 : ℕ} → k0 < 2 ^ 32 → k1 < 2 ^ 32 → (c : Quad) → Word32s c → Word32s (rounds i k0 k1 c)
unfolding rounds
small_rounds zero h0 h1 c h = h
small_rounds (suc i) h0 h1 c h = small_round (key_lt bump0 i _ h0) (key_lt bump1 i _ h1) _ (small_rounds i h0 h1 c h)

halves_lt : (x : ℕ) → x < 2 ^ 64 → (x % 2 ^ 32 < 2 ^ 32) × (x / 2 ^ 32 < 2 ^ 32)
halves_lt x h = (omega arith, omega arith)

small_block : (g : Philox4x32X8) → Words g → (n : ℕ) → Word32s (block_at g n)
unfolding block counter_of
small_block g w n =
    let low = halves_lt (n % 2 ^ 64) (mod-lt n (pow_pos 64)) in
    let high = halves_lt g.stream w.stream in
    small_rounds 10 (w.key 0) (w.key 1) _ (record { w0 = low.0; w1 = low.1; w2 = high.0; w3 = high.1 })

-- ---- generators
key-words : (a b : ℕ) → a < 2 ^ 32 → b < 2 ^ 32 → (i : ℕ) → get_or (a ∷ b ∷ []) i 0 < 2 ^ 32
key-words a b ha hb zero = ha
key-words a b ha hb (suc zero) = hb
key-words a b ha hb (suc (suc i)) = lit< tt

pub words-fresh : (seed stream : ℕ) → seed < 2 ^ 64 → stream < 2 ^ 64 → Words (fresh seed stream)
unfolding fresh
words-fresh seed stream h t =
    let k = halves_lt seed h in
    record {
      two = refl;
      key = key-words _ _ k.0
          k.1;
      stream = t;
      counter = lit< tt;
      eight = refl;
      pending = zeros-below;
      first = lit< tt;
    }

pub words-sought : (g : Philox4x32X8) (n : ℕ) → n < 2 ^ 64 → Words g → Words (sought g n)
unfolding sought
words-sought g n h w =
    record { two = w.two; key = w.key; stream = w.stream; counter = h; eight = refl; pending = zeros-below; first = lit< tt }

words-holding : (g : Philox4x32X8) (n m : ℕ) → n < 2 ^ 64 → m < 2 ^ 64 → Words g → Words (holding g n m)
unfolding holding upper_at
words-holding g n m h l w =
    record {
      two = w.two;
      key = w.key;
      stream = w.stream;
      counter = h;
      eight = length-table 8 _;
      pending = table_below (2 ^ 64) 8 (λ i. (block_at g (m + i)).w2 + 2 ^ 32 * (block_at g (m + i)).w3) (pow_pos 64)
          (λ i _. join (small_block g w (m + i)));
      first = l;
    }
  where
    join : {q : Quad} → Word32s q → q.w2 + 2 ^ 32 * q.w3 < 2 ^ 64
    join k = omega arith

-- a draw's generator is the one or the other
pub next_cases : (P : Philox4x32X8 → Type 0) (g : Philox4x32X8) → P (sought g g.counter) → P (holding g (past g.counter) g.counter)
    → P (next_of g)
unfolding next_of
next_cases P g p q = go g.waiting
  where
    go : (b : Bool) → P (cond b (sought g g.counter) (holding g (past g.counter) g.counter))
    go true = p
    go false = q

pub words-next : (g : Philox4x32X8) → Words g → Words (next_of g)
words-next g w =
    next_cases Words g (words-sought g g.counter w.counter w) (words-holding g (past g.counter) g.counter
    (mod-lt _ (pow_pos 64)) w.counter w)

-- a field's width bounds it
pub words-loaded : (s : List ℕ) → Bytes s → (loaded s).refusal ≡ 0 → Words (loaded s).value
words-loaded s b ok = rw (load-accepted s ok).holds words
  where
    below : (k : ℕ) → get_or (fields layout s) k 0 < 256 ^ get_or layout k 0
    below = field_below layout 0 s b

    width : (i : ℕ) → i < 8 → get_or layout (5 + i) 0 ≡ 8
    width i l = get_or-append-add (4 ∷ 4 ∷ 8 ∷ 8 ∷ 8 ∷ []) (replicate 9 8) i 0 ∙ get_or-replicate {A = ℕ} 9 i 8 0 (omega arith)

    words : Words (of_fields (fields layout s))
    words =
        record {
          two = refl;
          key = key-words _ _ (below 0) (below 1);
          stream = below 2;
          counter = below 3;
          eight = length-table 8 _;
          pending = table_below (2 ^ 64) 8 (λ i. get_or (fields layout s) (5 + i) 0) (pow_pos 64) (λ i l. rw (width i l) at (below (5 + i)));
          first = below 13;
        }
