-- Draws stored one after another, and held in a buffer, on any engine. Assumes nothing.
use mathlib.Core.Path.{◌≡◌, refl, sym, ap, ◌∙◌}
use mathlib.Core.List.{List, ◌++◌}
use Prim.Native.Nat.{ℕ, ◌+◌, ◌*◌, ◌/◌, ◌%◌, ◌<◌, ◌≤◌}
use native.Mathlib.Omega.{arith}
use lib.ListN.{length, get_or}
use lib.Seq.{ext_get_or}
use Rattle.base.specs.Engine.{Engine, words_from, drawn_words, DrawnAt, draw_of}
use Rattle.base.specs.Iterate.{iterate}
use Rattle.base.specs.Stored.{stored}
use Rattle.base.specs.Table.{table}
use Rattle.base.proofs.Iterate.{iterate_more}
use Rattle.base.proofs.Stored.{stored-two, stored_in}
use Rattle.base.proofs.Table.{length-table, get_or-table, table-append, table_same, table-get_or}

-- what the laws ask of an engine: a draw has eight words
abbrev pub EachEight : {G : Type 0} → Engine G → Type 0
EachEight {G} E = (s : G) → length (E.words s) ≡ 8

-- no draws change nothing; the same draws, counted otherwise
pub none-drawn : {G : Type 0} {E : Engine G} {g : G} {l : List ℕ} {at m : ℕ} → m ≡ 0 → DrawnAt E g at m l l 0 g
unfolding drawn_words stored table iterate
none-drawn {G} {E} {g} {l} {at} e = rw e (record { writes = refl; count = refl; state = refl })

pub drawn_as : {G : Type 0} {E : Engine G} {g g' : G} {l l' : List ℕ} {at m n draws draws' : ℕ} → DrawnAt E g at m l l' draws g' → m ≡ n
    → draws' ≡ n → DrawnAt E g at n l l' draws' g'
drawn_as {E = E} {g = g} {l = l} {at = at} D e d =
    record {
      writes = D.writes ∙ ap (λ (k : ℕ). stored l at (drawn_words E k g)) e;
      count = d;
      state = D.state ∙ ap (λ (k : ℕ). iterate E.next k g) e;
    }

-- ---- draws stored one after another
module _ {G : Type 0} (E : Engine G) (g : G) where
  long : (m : ℕ) → length (drawn_words E m g) ≡ m * 8
  unfolding drawn_words
  long m = length-table (m * 8) _

  words_more : EachEight E → (m : ℕ) → drawn_words E (m + 1) g ≡ drawn_words E m g ++ words_from E g m
  unfolding drawn_words
  words_more eights m =
      ap (λ (n : ℕ). table n W) (omega arith)
      ∙ table-append (m * 8) 8 W
      ∙ ap (λ (t : List ℕ). table (m * 8) W ++ t) (table_same 8 _ _ (λ i h. last i h) ∙ table-get_or 8 0 (words_from E g m) (eights (iterate E.next m g)))
    where
      W : ℕ → ℕ
      W k = get_or (words_from E g (k / 8)) (k % 8) 0

      last : (i : ℕ) → i < 8 → W (m * 8 + i) ≡ get_or (words_from E g m) i 0
      last i h =
          let eq : (m * 8 + i) / 8 ≡ m = omega arith in
          let em : (m * 8 + i) % 8 ≡ i = omega arith in
          λ k. get_or (words_from E g (eq k)) (em k) 0

module _ {G : Type 0} {E : Engine G} {g : G} where
  pub drawn_more : EachEight E → {l out out' : List ℕ} {at m d : ℕ} {rng rng' : G} → DrawnAt E g at m l out d rng
      → out' ≡ stored out (at + m * 8) (E.words rng) → rng' ≡ E.next rng → DrawnAt E g at (m + 1) l out' (d + 1) rng'
  drawn_more eights {l} {out} {out'} {at} {m} {d} {rng} {rng'} D eo er =
      record {
        writes =
            stored-two l at (drawn_words E m g) (words_from E g m) D.writes (ap (λ (k : ℕ). at + k) (long E g m))
            (eo ∙ ap (λ (s : G). stored out (at + m * 8) (E.words s)) D.state)
            ∙ ap (stored l at) (sym (words_more E g eights m));
        count = ap (λ (k : ℕ). k + 1) D.count;
        state = er ∙ ap E.next D.state ∙ sym (iterate_more E.next m g);
      }

-- draws stored from the first place on: a buffer that has room for them holds them
pub held_at_first : {G : Type 0} {E : Engine G} {g g' : G} {m draws : ℕ} {buf after : List ℕ} → EachEight E
    → DrawnAt E g 0 m buf after draws g' → m * 8 ≤ length buf → (i : ℕ) → i < m → draw_of after i ≡ words_from E g i
unfolding draw_of drawn_words
held_at_first {G} {E} {g} {g'} {m} {draws} {buf} {after} eights D room i h =
    ext_get_or 0 (table 8 A) (words_from E g i) (length-table 8 A ∙ sym (eights (iterate E.next i g)))
    (λ r b. let b' : r < 8 = omega (arith, length-table 8 A) in get_or-table 8 A r 0 b' ∙ place r b')
  where
    A : ℕ → ℕ
    A r = get_or after (i * 8 + r) 0

    W : ℕ → ℕ
    W k = get_or (words_from E g (k / 8)) (k % 8) 0

    v : List ℕ
    v = table (m * 8) W

    place : (r : ℕ) → r < 8 → get_or after (i * 8 + r) 0 ≡ get_or (words_from E g i) r 0
    place r b =
        let e : (i * 8 + r) / 8 ≡ i = omega arith in
        let e' : (i * 8 + r) % 8 ≡ r = omega arith in
        let z : i * 8 + r ≡ 0 + (i * 8 + r) = omega arith in
        (λ k. get_or (D.writes k) (z k) 0)
        ∙ stored_in v buf 0 (i * 8 + r) 0 (omega (arith, length-table (m * 8) W)) (omega arith)
        ∙ get_or-table (m * 8) W (i * 8 + r) 0 (omega arith)
        ∙ λ k. get_or (words_from E g (e k)) (e' k) 0
