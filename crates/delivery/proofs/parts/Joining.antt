-- Fills of whole groups, one after another, are one fill: for any kind and engine, then for the rows of the table. Assumes nothing.
use Rattle.std.proofs.Common.{◌≡◌, ℕ, zero, suc, ◌+◌, ◌-◌, ◌*◌, ◌/◌, ◌%◌, ◌<◌, ◌≤◌, List, [], ◌++◌, length, get_or, sym, refl, ap, ◌∙◌, append-nil, add-zero, mod-lt, mul_assoc, suc-mul, add-mul, mul-zero, div-add-mod', zero-mul, mul-add, div-mul-le_self, add-one, arith}
use mathlib.Core.Path.{fun_ext}
use native.Mathlib.Nat.{mul-mod_left, lt-div-mul-add, div-eq_of_lt-le, div-eq_of_eq-mul_left}
use Rattle.base.specs.Engine.{Engine, words_from}
use Rattle.base.specs.Bytes.{flat}
use Rattle.base.specs.Iterate.{iterate}
use Rattle.base.specs.Table.{table}
use Rattle.base.proofs.Bytes.{flat_append, flat-length}
use Rattle.base.proofs.Iterate.{iterate-then}
use Rattle.base.proofs.Table.{length-table, table_same, table-append}
use Rattle.fills.specs.Fill.{Kind, round_up, draws_for, element}
use Rattle.fills.specs.FillBytes.{bytes_of, elements, bytes_written, bytes_draws}
use Rattle.fills.specs.Kinds.{kinds, kind_at, of, u64s}
use Rattle.fills.proofs.Bytes.{wide}
use Rattle.fills.proofs.Filling.{element-at}
use Rattle.fills.proofs.Rounding.{round-none}
use Rattle.fills.proofs.Sounds.{row}
use Rattle.delivery.specs.parts.Delivery.{width_of, group_of}
use Rattle.delivery.specs.parts.Claims.{OneFill}

-- ---- any kind: t whole groups, then m places
module _ {A : Type 0} (K : Kind A) (some : 0 < K.places) where
  element-past : (W : ℕ → List ℕ) (t i : ℕ) → element K W (t * K.places + i) ≡ element K (λ m. W (K.draws * t + m)) i
  element-past W t i =
      let p : ℕ = K.places in
      let q : ℕ = i / p in
      let d : q * p + i % p ≡ i = div-add-mod' i p in
      let e : t * p + i ≡ (t + q) * p + i % p = omega (arith, d, add-mul t q p) in
      let W' : ℕ → List ℕ = λ m. W (K.draws * t + m) in
      let words : (m : ℕ) → W (K.draws * (t + q) + m) ≡ W' (K.draws * q + m) = λ m. ap W (omega (arith, mul-add K.draws t q)) in
      ap (element K W) e
      ∙ element-at K W (t + q) (i % p) (mod-lt i some)
      ∙ ap (λ (X : ℕ → List ℕ). get_or (K.group X) (i % p) K.blank) (fun_ext words)
      ∙ sym (element-at K W' q (i % p) (mod-lt i some))
      ∙ ap (element K W') d

  table-past : (W : ℕ → List ℕ) (t m : ℕ)
      → table (t * K.places + m) (element K W) ≡ table (t * K.places) (element K W) ++ table m (element K (λ j. W (K.draws * t + j)))
  table-past W t m =
      table-append (t * K.places) m (element K W)
      ∙ ap (λ (l : List A). table (t * K.places) (element K W) ++ l) (table_same m _ _ (λ i h. element-past W t i))

  round-past : (t m : ℕ) → round_up (t * K.places + m) K.places ≡ t + round_up m K.places
  round-past t m =
      let p : ℕ = K.places in
      let r : ℕ = round_up m p in
      let a : r * p ≤ m + (p - 1) = div-mul-le_self (m + (p - 1)) p in
      let b : m + (p - 1) < r * p + p = lt-div-mul-add some in
      div-eq_of_lt-le p (omega (arith, add-mul t r p)) (rw (add-one, suc-mul) (omega (arith, add-mul t r p)))

  draws-past : (t m : ℕ) → draws_for K (t * K.places + m) ≡ K.draws * t + draws_for K m
  draws-past t m = ap (λ (n : ℕ). K.draws * n) (round-past t m) ∙ mul-add K.draws t (round_up m K.places)

  draws-none : draws_for K 0 ≡ 0
  draws-none = ap (λ (n : ℕ). K.draws * n) (round-none 0 K.places refl) ∙ mul-zero K.draws

  draws-whole : (t : ℕ) → draws_for K (t * K.places) ≡ K.draws * t
  draws-whole t = ap (draws_for K) (sym (add-zero (t * K.places))) ∙ draws-past t 0 ∙ omega (arith, draws-none)

-- ---- the rows of the table: 16 places are whole groups of each
whole-at : (i : ℕ) → 16 / (get_or kinds i (of u64s)).kind.places * (get_or kinds i (of u64s)).kind.places ≡ 16
whole-at zero = refl
whole-at (suc zero) = refl
whole-at (suc (suc zero)) = refl
whole-at (suc (suc (suc zero))) = refl
whole-at (suc (suc (suc (suc zero)))) = refl
whole-at (suc (suc (suc (suc (suc zero))))) = refl
whole-at (suc (suc (suc (suc (suc (suc zero)))))) = refl
whole-at (suc (suc (suc (suc (suc (suc (suc zero))))))) = refl
whole-at (suc (suc (suc (suc (suc (suc (suc (suc i)))))))) = refl

pub whole_16 : (k n : ℕ) → n % 16 ≡ 0 → n % group_of k ≡ 0
unfolding kind_at
whole_16 k n h =
    let p : ℕ = group_of k in
    let e : n ≡ n / 16 * (16 / p) * p =
    sym (mul_assoc (n / 16) (16 / p) p ∙ ap (λ (x : ℕ). n / 16 * x) (whole-at (k - 1)) ∙ omega arith) in
    ap (λ (x : ℕ). x % p) e ∙ mul-mod_left (n / 16 * (16 / p)) p

-- n places by their bytes
module _ (k : ℕ) where
  count : (n : ℕ) → elements k (n * width_of k) ≡ n
  count n = div-eq_of_eq-mul_left (row k).wide refl

  drawn : (n : ℕ) → bytes_draws k (n * width_of k) ≡ draws_for (kind_at k).kind n
  unfolding bytes_draws
  drawn n = ap (draws_for (kind_at k).kind) (count n)

  pub none-drawn : bytes_draws k 0 ≡ 0
  none-drawn = ap (bytes_draws k) (sym (zero-mul (width_of k))) ∙ drawn 0 ∙ draws-none (kind_at k).kind (row k).sound.some

  module _ (W : ℕ → List ℕ) where
    written : (n : ℕ) → bytes_written k W (n * width_of k) ≡ flat (bytes_of (kind_at k).kind) (table n (element (kind_at k).kind W))
    unfolding bytes_written
    written n = ap (λ (x : ℕ). flat (bytes_of (kind_at k).kind) (table x (element (kind_at k).kind W))) (count n)

    pub none_written : bytes_written k W 0 ≡ []
    unfolding flat table
    none_written = ap (bytes_written k W) (sym (zero-mul (width_of k))) ∙ written 0

    pub length_written : (n : ℕ) → length (bytes_written k W (n * width_of k)) ≡ n * width_of k
    length_written n =
        let K = (kind_at k).kind in
        ap length (written n)
        ∙ flat-length (bytes_of K) K.width (wide K (row k).sound (row k).wide) (table n (element K W))
        ∙ ap (λ (x : ℕ). x * K.width) (length-table n (element K W))

-- ---- two fills
module _ {G : Type 0} (E : Engine G) (g : G) (k n : ℕ) where
  pub whole-then : (m : ℕ) → n % group_of k ≡ 0 → OneFill E g k n m
  whole-then m h =
      let K = (kind_at k).kind in
      let some = (row k).sound.some in
      let t : ℕ = n / K.places in
      let e : n ≡ t * K.places = omega (arith, div-add-mod' n K.places, h) in
      let b : bytes_draws k (n * width_of k) ≡ K.draws * t = drawn k n ∙ ap (draws_for K) e ∙ draws-whole K some t in
      let W : ℕ → List ℕ = words_from E g in
      let W' : ℕ → List ℕ = λ i. words_from E (iterate E.next (bytes_draws k (n * width_of k)) g) i in
      let same : (j : ℕ) → W (K.draws * t + j) ≡ W' j =
      λ j. ap E.words
      (iterate-then E.next (K.draws * t) j g ∙ ap (λ (x : ℕ). iterate E.next j (iterate E.next x g)) (sym b)) in
      let e' = sym e in
      let first = sym (written k W n) in
      let second = sym (written k W' m) in
      record {
        bytes =
            written k W (n + m)
            ∙ ap (λ (x : ℕ). flat (bytes_of K) (table (x + m) (element K W))) e
            ∙ ap (flat (bytes_of K)) (table-past K some W t m)
            ∙ flat_append (bytes_of K) (table (t * K.places) (element K W)) (table m (element K (λ j. W (K.draws * t + j))))
            ∙ (λ i. flat (bytes_of K) (table (e' i) (element K W)) ++ flat (bytes_of K) (table m (element K (fun_ext same i))))
            ∙ (λ i. first i ++ second i);
        draws = drawn k (n + m) ∙ ap (λ (x : ℕ). draws_for K (x + m)) e ∙ draws-past K some t m ∙ (λ i. sym b i + sym (drawn k m) i);
      }

  -- nothing after any number of places
  pub then-none : OneFill E g k n 0
  then-none =
      let w = width_of k in
      let W : ℕ → List ℕ = words_from E g in
      let W' : ℕ → List ℕ = λ i. words_from E (iterate E.next (bytes_draws k (n * w)) g) i in
      let z = zero-mul w in
      record {
        bytes =
            ap (λ (x : ℕ). bytes_written k W (x * w)) (add-zero n)
            ∙ sym (append-nil (bytes_written k W (n * w)))
            ∙ ap (λ (l : List ℕ). bytes_written k W (n * w) ++ l) (sym (ap (bytes_written k W') z ∙ none_written k W'));
        draws =
            ap (λ (x : ℕ). bytes_draws k (x * w)) (add-zero n)
            ∙ sym (add-zero (bytes_draws k (n * w)))
            ∙ ap (λ (x : ℕ). bytes_draws k (n * w) + x) (sym (ap (bytes_draws k) z ∙ none-drawn k));
      }
