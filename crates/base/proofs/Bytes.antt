-- The bytes of elements, one element after another: their number, and what stands where. For any element type and width in bytes.
-- Assumes nothing.
use mathlib.Core.Path.{◌≡◌, refl, sym, ap, ◌∙◌}
use mathlib.Core.List.{List, [], ◌∷◌, ◌++◌, map, append_assoc}
use Prim.Native.Nat.{ℕ, zero, suc, ◌+◌, ◌*◌, ◌/◌, ◌%◌, ◌^◌, ◌<◌}
use native.Mathlib.Nat.{div-lt_iff_lt-mul, pow-suc, zero-mul, suc-mul, mul_assoc, zero-add, not-suc-le-zero, le_of_suc-le-suc}
use native.Mathlib.Omega.{arith}
use lib.Dec.{lit<}
use lib.ListN.{length, get_or, length-append, get_or-append}
use lib.Seq.{get_or-append-add}
use Rattle.base.specs.Bytes.{le_bytes, le_nat, flat}

pub length-le_bytes : (n x : ℕ) → length (le_bytes n x) ≡ n
length-le_bytes zero x = refl
length-le_bytes (suc n) x = ap suc (length-le_bytes n (x / 256))

-- a number back from its bytes
pub le_round : (n x : ℕ) → x < 256 ^ n → le_nat (le_bytes n x) ≡ x
le_round zero x h = omega arith
le_round (suc n) x h =
    let h' : x < 256 ^ n * 256 = rw pow-suc at h in
    let q : x / 256 < 256 ^ n = (div-lt_iff_lt-mul (lit< tt)).1 h' in
    ap (λ (k : ℕ). x % 256 + 256 * k) (le_round n (x / 256) q) ∙ omega arith

-- the bytes of a word are those of its low half, then those of its high half
byte_down : (k lo hi : ℕ) → ((lo + 256 * k * hi) / 256 ≡ lo / 256 + k * hi) × ((lo + 256 * k * hi) % 256 ≡ lo % 256)
byte_down k lo hi = let e : 256 * k * hi ≡ 256 * (k * hi) = mul_assoc 256 k hi in (rw e (omega arith), rw e (omega arith))

pub le_join : (lo hi : ℕ) → lo < 2 ^ 32 → le_bytes 8 (lo + 2 ^ 32 * hi) ≡ le_bytes 4 lo ++ le_bytes 4 hi
le_join lo hi h =
    let a = byte_down 16777216 lo hi in
    let b = byte_down 65536 (lo / 256) hi in
    let c = byte_down 256 (lo / 256 / 256) hi in
    let d = byte_down 1 (lo / 256 / 256 / 256) hi in
    let z : lo / 256 / 256 / 256 / 256 ≡ 0 = omega arith in
    let one : lo / 256 / 256 / 256 / 256 + 1 * hi ≡ hi = omega arith in
    let tail : le_bytes 7 ((lo + 4294967296 * hi) / 256) ≡ le_bytes 3 (lo / 256) ++ le_bytes 4 hi =
    ap (le_bytes 7) a.0
    ∙ ap (λ (x : ℕ). x ∷ le_bytes 6 ((lo / 256 + 16777216 * hi) / 256)) b.1
    ∙ ap (λ (x : ℕ). lo / 256 % 256 ∷ le_bytes 6 x) b.0
    ∙ ap (λ (x : ℕ). lo / 256 % 256 ∷ x ∷ le_bytes 5 ((lo / 256 / 256 + 65536 * hi) / 256)) c.1
    ∙ ap (λ (x : ℕ). lo / 256 % 256 ∷ lo / 256 / 256 % 256 ∷ le_bytes 5 x) c.0
    ∙ ap (λ (x : ℕ). lo / 256 % 256 ∷ lo / 256 / 256 % 256 ∷ x ∷ le_bytes 4 ((lo / 256 / 256 / 256 + 256 * hi) / 256)) d.1
    ∙ ap (λ (x : ℕ). lo / 256 % 256 ∷ lo / 256 / 256 % 256 ∷ lo / 256 / 256 / 256 % 256 ∷ le_bytes 4 x) (d.0 ∙ one) in
    ap (λ (x : ℕ). x ∷ le_bytes 7 ((lo + 4294967296 * hi) / 256)) a.1 ∙ ap (λ (l : List ℕ). lo % 256 ∷ l) tail

-- the bytes of elements that are made of others
pub flat_map : {A B : Type 0} (f : B → List ℕ) (g : A → B) (xs : List A) → flat f (map g xs) ≡ flat (λ x. f (g x)) xs
unfolding flat
flat_map f g [] = refl
flat_map f g (x ∷ xs) = ap (λ (l : List ℕ). f (g x) ++ l) (flat_map f g xs)

module _ {A : Type 0} (f : A → List ℕ) where
  pub flat_append : (xs ys : List A) → flat f (xs ++ ys) ≡ flat f xs ++ flat f ys
  unfolding flat
  flat_append [] ys = refl
  flat_append (x ∷ xs) ys = ap (λ (l : List ℕ). f x ++ l) (flat_append xs ys) ∙ sym (append_assoc (f x) (flat f xs) (flat f ys))

  module _ (w : ℕ) (wide : (a : A) → length (f a) ≡ w) where
    pub flat-length : (l : List A) → length (flat f l) ≡ length l * w
    unfolding flat
    flat-length [] = sym (zero-mul w)
    flat-length (a ∷ l) = rw (length-append, wide a, flat-length l, suc-mul) (omega arith)

    pub get_or-flat : (l : List A) (q r : ℕ) (a : A) → q < length l → r < w → get_or (flat f l) (q * w + r) 0 ≡ get_or (f (get_or l q a)) r 0
    unfolding flat
    get_or-flat [] q r a h b = absurd (not-suc-le-zero h)
    get_or-flat (x ∷ l) zero r a h b = rw (zero-mul, zero-add) (get_or-append (f x) (flat f l) 0 r (omega (arith, wide x)))
    get_or-flat (x ∷ l) (suc q) r a h b =
        let e : suc q * w + r ≡ length (f x) + (q * w + r) = rw (suc-mul, wide x) (omega arith) in
        rw e (get_or-append-add (f x) (flat f l) (q * w + r) 0 ∙ get_or-flat l q r a (le_of_suc-le-suc h) b)
