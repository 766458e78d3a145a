-- The claims of specs/Claims.antt. Assumes nothing.
use mathlib.Core.Bool.{Bool, true, false, cond, ◌&&◌}
use mathlib.Core.List.{List, [], ◌∷◌, ◌++◌, map}
use mathlib.Core.Path.{◌≡◌, refl, sym, ap, ap₂, subst, ◌∙◌}
use Prim.Native.Nat.{ℕ, zero, suc, ◌+◌, ◌*◌, ◌/◌, ◌%◌, ◌^◌, ◌<◌, ◌≤◌}
use native.Mathlib.Nat.{mod-lt, not-suc-le-zero, le_of_suc-le-suc, mul-suc, mul_comm, mul-le-mul_left, pow-suc}
use native.Mathlib.Nat.{div-eq_of_eq-mul_left, div-lt_iff_lt-mul, div-div-eq-div-mul}
use native.Mathlib.Omega.{arith}
use borrow.Author.Tests.{ltb-true, ltb-false, leb-true, eqb-true, le-leb, lt-leb, eq-eqb, ne_eqb}
use lib.Dec.{ltb, leb, eqb}
use lib.Ieee.{Float, Format, binary32, binary64}
use lib.ListN.{length, get_or, length-map, get_or-append}
use lib.Seq.{get_or-append-add}
use Rattle.base.specs.Engine.{words_from}
use Rattle.base.specs.Bytes.{le_bytes, flat}
use Rattle.base.specs.Iterate.{iterate}
use Rattle.base.specs.Table.{table}
use Rattle.base.proofs.Bytes.{length-le_bytes, get_or-flat}
use Rattle.base.proofs.Table.{length-table, get_or-table, placed, table_same}
use Rattle.base.specs.Zip.{zip_with}
use Rattle.floats.specs.patterns.Numbers as numbers
use Rattle.floats.specs.units.Unit.{unit, one_minus_unit, open01}
use Rattle.math.specs.BoxMuller.{cos_half, sin_half}
use Rattle.fills.specs.Fill.{Kind, round_up, draws_for, element}
use Rattle.fills.specs.Kinds.{lows, highs, u64s, u32s, floats_of, f32s, f64s, normals_of, normal_f32s}
use Rattle.fills.specs.Kinds.{normal_f64s, open01_f32s, open01_f64s, kinds, kind_at}
use Rattle.fills.specs.FillBytes.{bytes_of, refusal_of, elements, bytes_written, bytes_draws}
use Rattle.fills.specs.Claims.{by_half, u64_at, u32_at, f32_at, f64_at, normal_f32_at, normal_f64_at, open01_f32_at, open01_f64_at}
use Rattle.fills.specs.Claims.{Row, Row1, Row2, Row3, Row4, Row5, Row6, Row7, Row8, KindNumbers, DrawsAndWidths, EightKinds}
use Rattle.fills.specs.Claims.{Refusals, BytesOfTheFill, Places, PlacesOfRows, BytePlaces, BytesOfRows, AgreeBelow, OnlyItsDraws}
use Rattle.fills.proofs.Filling.{Sound}
use Rattle.fills.proofs.Rounding.{round_covers}
use Rattle.fills.proofs.Sounds.{length-zip, u64s_sound, u32s_sound, row}

-- ---- elements of lists made element by element
get_or-map : {A B : Type 0} (f : A → B) (xs : List A) (i : ℕ) (d : A) (e : B) → i < length xs → get_or (map f xs) i e ≡ f (get_or xs i d)
get_or-map f [] i d e h = absurd (not-suc-le-zero h)
get_or-map f (x ∷ xs) zero d e h = refl
get_or-map f (x ∷ xs) (suc i) d e h = get_or-map f xs i d e (le_of_suc-le-suc h)

get_or-zip : {A B C : Type 0} (f : A → B → C) (xs : List A) (ys : List B) (i : ℕ) (a : A) (b : B) (c : C) → i < length xs → i < length ys → get_or (zip_with f xs ys) i c ≡ f (get_or xs i a) (get_or ys i b)
get_or-zip f [] ys i a b c h k = absurd (not-suc-le-zero h)
get_or-zip f (x ∷ xs) [] i a b c h k = absurd (not-suc-le-zero k)
get_or-zip f (x ∷ xs) (y ∷ ys) zero a b c h k = refl
get_or-zip f (x ∷ xs) (y ∷ ys) (suc i) a b c h k = get_or-zip f xs ys i a b c (le_of_suc-le-suc h) (le_of_suc-le-suc k)

-- place r of two halves of eight
module _ {A : Type 0} (xs ys : List A) (h : length xs ≡ 8) (r : ℕ) (d : A) where
  first_half : r < 8 → get_or (xs ++ ys) r d ≡ get_or xs (r % 8) d
  first_half l = get_or-append xs ys d r (omega (arith, h)) ∙ ap (λ (i : ℕ). get_or xs i d) (omega arith)

  second_half : 8 ≤ r → r < 16 → get_or (xs ++ ys) r d ≡ get_or ys (r % 8) d
  second_half g l =
      let e : r ≡ length xs + r % 8 = omega (arith, h) in
      ap (λ (i : ℕ). get_or (xs ++ ys) i d) e ∙ get_or-append-add xs ys (r % 8) d

-- ---- the rows
one-draw : (words : ℕ → List ℕ) (q : ℕ) → words (1 * q + 0) ≡ words q
one-draw words q = ap words (omega arith)

-- one rule where r < 8, another where it is not
by_half_lem : {A : Type 0} (k : ℕ) {x a b : A} → (k % 16 < 8 → x ≡ a) → (8 ≤ k % 16 → x ≡ b) → x ≡ by_half k a b
by_half_lem {A} k {x} {a} {b} p q = go (ltb (k % 16) 8) refl
  where
    go : (t : Bool) → ltb (k % 16) 8 ≡ t → x ≡ cond t a b
    go true e = p (ltb-true (k % 16) 8 e)
    go false e = q (ltb-false (k % 16) 8 e)

pub row_1 : Row1
unfolding kind_at
row_1 words h k = ap (λ (w : List ℕ). get_or w (k % 8) 0) (one-draw words (k / 8))

module _ (w : List ℕ) (h : length w ≡ 8) (i : ℕ) (l : i < 8) where
  low_at : get_or (lows w) i 0 ≡ get_or w i 0 % 2 ^ 32
  low_at = get_or-map (λ x. x % 2 ^ 32) w i 0 0 (omega (arith, h))

  high_at : get_or (highs w) i 0 ≡ get_or w i 0 / 2 ^ 32
  high_at = get_or-map (λ x. x / 2 ^ 32) w i 0 0 (omega (arith, h))

length-lows : (w : List ℕ) → length w ≡ 8 → length (lows w) ≡ 8
length-lows w h = length-map w (λ x. x % 2 ^ 32) ∙ h

length-highs : (w : List ℕ) → length w ≡ 8 → length (highs w) ≡ 8
length-highs w h = length-map w (λ x. x / 2 ^ 32) ∙ h

pub row_2 : Row2
unfolding kind_at
row_2 words h k =
    let q : ℕ = k / 16 in
    let w : List ℕ = words q in
    let r : ℕ = k % 16 in
    let i< : r % 8 < 8 = omega arith in
    let long = length-lows w (h q) in
    let start = ap (λ (x : List ℕ). get_or (lows x ++ highs x) r 0) (one-draw words q) in
    let low = low_at w (h q) (r % 8) i< in
    let high = high_at w (h q) (r % 8) i< in
    by_half_lem k
    (λ l. start ∙ first_half (lows w) (highs w) long r 0 l ∙ low ∙ ap (λ (i : ℕ). get_or w i 0 % 2 ^ 32) (omega arith))
    (λ l. start ∙ second_half (lows w) (highs w) long r 0 l (omega arith) ∙ high ∙ ap (λ (i : ℕ). get_or w i 0 / 2 ^ 32) (omega arith))

-- v of each element, where a kind of floats is made so
floats_row : {A : Type 0} (f : Format) (v : A → Float) (K : Kind A) → Sound K → {says : (ℕ → List ℕ) → ℕ → A} → Row says K
    → Row (λ words k. v (says words k)) (floats_of f v K)
floats_row f v K S is words h k =
    let W : ℕ → List ℕ = λ m. words (K.draws * (k / K.places) + m) in
    let long = S.full W (λ m. h (K.draws * (k / K.places) + m)) in
    get_or-map v (K.group W) (k % K.places) K.blank numbers.zero (subst (λ (n : ℕ). k % K.places < n) (sym long) (mod-lt k S.some))
    ∙ ap v (is words h k)

pub row_3 : Row3
unfolding kind_at
row_3 = floats_row binary32 (unit binary32) u32s u32s_sound row_2

pub row_4 : Row4
unfolding kind_at
row_4 = floats_row binary64 (unit binary64) u64s u64s_sound row_1

pub row_7 : Row7
unfolding kind_at
row_7 = floats_row binary32 (open01 binary32) u32s u32s_sound row_2

pub row_8 : Row8
unfolding kind_at
row_8 = floats_row binary64 (open01 binary64) u64s u64s_sound row_1

-- the halves of Box-Muller, from words a and b
module _ (f : Format) (a b : List ℕ) (ha : length a ≡ 8) (hb : length b ≡ 8) (r : ℕ) (d : Float) where
  abbrev u1 : List Float
  u1 = map (one_minus_unit f) a

  abbrev u2 : List Float
  u2 = map (unit f) b

  long1 : length u1 ≡ 8
  long1 = length-map a (one_minus_unit f) ∙ ha

  long2 : length u2 ≡ 8
  long2 = length-map b (unit f) ∙ hb

  half_at : (half : Float → Float → Float) (i : ℕ) → i < 8 → get_or (zip_with half u1 u2) i d ≡ half (one_minus_unit f (get_or a i 0)) (unit f (get_or b i 0))
  half_at half i l =
      get_or-zip half u1 u2 i d d d (omega (arith, long1)) (omega (arith, long2))
      ∙ ap₂ half (get_or-map (one_minus_unit f) a i 0 d (omega (arith, ha))) (get_or-map (unit f) b i 0 d (omega (arith, hb)))

  normals_at : (r < 8 → get_or (normals_of f a b) r d ≡ cos_half f (one_minus_unit f (get_or a (r % 8) 0)) (unit f (get_or b (r % 8) 0)))
      × (8 ≤ r → r < 16 → get_or (normals_of f a b) r d ≡ sin_half f (one_minus_unit f (get_or a (r % 8) 0)) (unit f (get_or b (r % 8) 0)))
  normals_at =
      let long : length (zip_with (cos_half f) u1 u2) ≡ 8 = length-zip (cos_half f) u1 u2 (long1 ∙ sym long2) ∙ long2 in (
        (λ l. first_half (zip_with (cos_half f) u1 u2) (zip_with (sin_half f) u1 u2) long r d l ∙ half_at (cos_half f) (r % 8) (omega arith)),
        (λ g l. second_half (zip_with (cos_half f) u1 u2) (zip_with (sin_half f) u1 u2) long r d g l ∙ half_at (sin_half f) (r % 8) (omega arith)),
      )

pub row_5 : Row5
unfolding kind_at
row_5 words h k =
    let q : ℕ = k / 16 in
    let w : List ℕ = words q in
    let r : ℕ = k % 16 in
    let i< : r % 8 < 8 = omega arith in
    let start = ap (λ (x : List ℕ). get_or (normals_of binary32 (lows x) (highs x)) r numbers.zero) (one-draw words q) in
    let n = normals_at binary32 (lows w) (highs w) (length-lows w (h q)) (length-highs w (h q)) r numbers.zero in
    let low = low_at w (h q) (r % 8) i< in
    let high = high_at w (h q) (r % 8) i< in
    by_half_lem k
    (λ l. start ∙ n.0 l ∙ λ j. cos_half binary32 (one_minus_unit binary32 (low j)) (unit binary32 (high j)))
    (λ l. start ∙ n.1 l (omega arith) ∙ λ j. sin_half binary32 (one_minus_unit binary32 (low j)) (unit binary32 (high j)))

pub row_6 : Row6
unfolding kind_at
row_6 words h k =
    let q : ℕ = k / 16 in
    let e : 2 * q + 0 ≡ 2 * q = omega arith in
    let start = ap (λ (x : List ℕ). get_or (normals_of binary64 x (words (2 * q + 1))) (k % 16) numbers.zero) (ap words e) in
    let n = normals_at binary64 (words (2 * q)) (words (2 * q + 1)) (h (2 * q)) (h (2 * q + 1)) (k % 16) numbers.zero in
    by_half_lem k (λ l. start ∙ n.0 l) (λ l. start ∙ n.1 l (omega arith))

pub kind_numbers : KindNumbers
unfolding kind_at
kind_numbers = record { kind1 = refl; kind2 = refl; kind3 = refl; kind4 = refl; kind5 = refl; kind6 = refl; kind7 = refl; kind8 = refl }

pub draws_and_widths : DrawsAndWidths
unfolding kind_at
draws_and_widths n =
    record {
      draws1 = omega arith;
      draws2 = omega arith;
      draws3 = omega arith;
      draws4 = omega arith;
      draws5 = omega arith;
      draws6 = refl;
      draws7 = omega arith;
      draws8 = omega arith;
      width1 = refl;
      width2 = refl;
      width3 = refl;
      width4 = refl;
      width5 = refl;
      width6 = refl;
      width7 = refl;
      width8 = refl;
    }

-- ---- the refusals of a byte fill
pub eight-kinds : EightKinds
eight-kinds = refl

pub refusals : Refusals
unfolding refusal_of
refusals k n =
    record {
      accepted = λ e. back (leb 1 k) (leb k last) (eqb (n % w) 0) refl refl refl e;
      accepts = λ a b z. simp (le-leb 1 k a, le-leb k last b, eq-eqb (n % w) 0 z);
      below = λ h. simp (lt-leb 1 k h);
      above = λ h. simp (le-leb 1 k (omega arith), lt-leb k last h);
      uneven = λ a b z. simp (le-leb 1 k a, le-leb k last b, ne_eqb (n % w) 0 z);
    }
  where
    last : ℕ
    last = length kinds

    w : ℕ
    w = (kind_at k).kind.width

    back : (a b c : Bool) → leb 1 k ≡ a → leb k last ≡ b → eqb (n % w) 0 ≡ c → ◌≡◌ {A = ℕ} (cond (a && b) (cond c 0 5) 4) 0
        → (1 ≤ k) × (k ≤ last) × (n % w ≡ 0)
    back true true true p q r e = (leb-true 1 k p, leb-true k last q, eqb-true (n % w) 0 r)
    back true true false p q r e = absurd (omega arith)
    back true false c p q r e = absurd (omega arith)
    back false b c p q r e = absurd (omega arith)

-- ---- bytes and elements
pub bytes_of_the_fill : BytesOfTheFill
unfolding bytes_written bytes_draws
bytes_of_the_fill G E k g gᵇ gᵗ before after old new dᵇ dᵗ B T long =
    let K = (kind_at k).kind in
    let n : elements k (length before) ≡ length old = div-eq_of_eq-mul_left (row k).wide long in
    let W : ℕ → List ℕ = words_from E g in
    let draws : dᵇ ≡ dᵗ = B.count ∙ ap (draws_for K) n ∙ sym T.count in (
      B.writes ∙ ap (λ (m : ℕ). flat (bytes_of K) (table m (element K W))) n ∙ ap (flat (bytes_of K)) (sym T.writes),
      draws,
      B.state ∙ ap (λ (m : ℕ). iterate E.next m g) draws ∙ sym T.state,
    )

-- ---- place by place
places : {A : Type 0} (says : (ℕ → List ℕ) → ℕ → A) (K : Kind A) → Row says K → Places says K
places says K is words h n after e k l = placed n K.blank (element K words) e k l ∙ is words h k

pub places-of-rows : PlacesOfRows
unfolding kind_at
places-of-rows =
    record {
      u64 = places u64_at u64s row_1;
      u32 = places u32_at u32s row_2;
      f32 = places f32_at f32s row_3;
      f64 = places f64_at f64s row_4;
      normal_f32 = places normal_f32_at normal_f32s row_5;
      normal_f64 = places normal_f64_at normal_f64s row_6;
      open01_f32 = places open01_f32_at open01_f32s row_7;
      open01_f64 = places open01_f64_at open01_f64s row_8;
    }

byte_of : (n x j : ℕ) → j < n → get_or (le_bytes n x) j 0 ≡ x / 256 ^ j % 256
byte_of zero x j h = absurd (not-suc-le-zero h)
byte_of (suc n) x zero h = omega arith
byte_of (suc n) x (suc j) h =
    byte_of n (x / 256) j (le_of_suc-le-suc h)
    ∙ ap (λ (y : ℕ). y % 256) (div-div-eq-div-mul x 256 (256 ^ j) ∙ ap (λ (y : ℕ). x / y) (mul_comm 256 (256 ^ j) ∙ sym (pow-suc 256 j)))

byte_places : (number : ℕ) (says : (ℕ → List ℕ) → ℕ → (kind_at number).Element) → Row says (kind_at number).kind
    → BytePlaces says (kind_at number).kind.bits number (kind_at number).kind.width
unfolding bytes_written
byte_places number says is words h n after e k j l b =
    let K = (kind_at number).kind in
    let f : ℕ → (kind_at number).Element = element K words in
    let m : ℕ = elements number n in
    let l' : k < length (table m f) = omega (arith, length-table m f) in
    ap (λ (t : List ℕ). get_or t (k * K.width + j) 0) e
    ∙ get_or-flat (bytes_of K) K.width (λ x. length-le_bytes K.width (K.bits x)) (table m f) k j K.blank l' b
    ∙ ap (λ (x : (kind_at number).Element). get_or (bytes_of K x) j 0) (get_or-table m f k K.blank l ∙ is words h k)
    ∙ byte_of K.width (K.bits (says words k)) j b

pub bytes-of-rows : BytesOfRows
unfolding kind_at
bytes-of-rows =
    record {
      bytes1 = byte_places 1 u64_at row_1;
      bytes2 = byte_places 2 u32_at row_2;
      bytes3 = byte_places 3 f32_at row_3;
      bytes4 = byte_places 4 f64_at row_4;
      bytes5 = byte_places 5 normal_f32_at row_5;
      bytes6 = byte_places 6 normal_f64_at row_6;
      bytes7 = byte_places 7 open01_f32_at row_7;
      bytes8 = byte_places 8 open01_f64_at row_8;
    }

-- ---- the draws that a fill depends on
-- the group of a place is one of those that n places begin
group_of : (n w i : ℕ) → 0 < w → i < n → i / w < round_up n w
group_of n w i pos h = (div-lt_iff_lt-mul pos).1 (omega (arith, round_covers n w pos))

only-draws : {A : Type 0} (K : Kind A) → Sound K → (n : ℕ) (U W : ℕ → List ℕ) → AgreeBelow (draws_for K n) U W
    → table n (element K U) ≡ table n (element K W)
only-draws K sound n U W same =
    table_same n (element K U) (element K W)
    (λ i h. ap (λ (l : List _). get_or l (i % w) K.blank) (sound.own _ _ (λ m b. same (d * (i / w) + m) (below i m h b))))
  where
    w : ℕ
    w = K.places

    d : ℕ
    d = K.draws

    below : (i m : ℕ) → i < n → m < d → d * (i / w) + m < d * round_up n w
    below i m h b = omega (arith, mul-suc d (i / w), mul-le-mul_left d (group_of n w i sound.some h))

pub only_its_draws : OnlyItsDraws
unfolding bytes_written bytes_draws
only_its_draws k n U W =
    let K = (kind_at k).kind in (
      only-draws K (row k).sound n U W,
      (λ same. ap (flat (bytes_of K)) (only-draws K (row k).sound (elements k n) U W same)),
    )
